-- With enough allowance the draw is the source's: where the source's loop ends, every allowance of its squeezes or more gives its draw,
-- and where a draw is not refused the source's loop ends with it.
-- Assumes nothing.
use mathlib.Core.List.{List, [], ◌∷◌, ◌++◌}
use mathlib.Core.Path.{◌≡◌, refl, ap, subst, subst⁻¹, sym, ◌∙◌}
use Prim.Native.Nat.{ℕ, zero, suc, ◌-◌, ◌≤◌}
use native.Mathlib.Decide.{ℕ_discrete}
use native.Mathlib.Nat.{sub-zero, suc-sub-suc}
use native.Mathlib.Numerals.{one-add}
use native.Mathlib.Omega.{arith}
use lib.ListN.{length, take, length-append}
use lib.Seq.{take-nil}
use Rattle.rounds.specs.Field.{value_of}
use Rattle.std.specs.Prelude.{Ok, Err}
use Rattle.refusals.specs.Judge.{Judgement, none, unless}
use Rattle.refusals.proofs.JudgeLaws.{refused-not-none}
use Rattle.sponge.specs.declared.Tip5.{Tip5}
use Rattle.sponge.specs.Sponge.{rate, squeezed}
use Rattle.draws.specs.Answers.{draw_refusal, drawn, sample_indices}
use Rattle.draws.specs.Draw.{Draw, draw, from_ten, from_words, index_of, nothing, skipped}
use Rattle.draws.specs.Source.{Loop, SourceDraw}
use Rattle.draws.specs.Source.Loop.{full, refill, skip, push}
use Rattle.draws.proofs.AllowanceLaws.{accepted-all}
use Rattle.draws.proofs.DrawLaws.{draw-none}
use Rattle.draws.proofs.IndexLaws.{drawn-index, drawn-skipped}

-- a draw with indices that came before it
abbrev with_front : (front : List ℕ) → Draw → Draw
with_front front d = record { indices = front ++ d.indices; squeezes = d.squeezes; sponge = d.sponge }

-- what the next word of the buffer draws

words-skip : (bound w : ℕ) (ws : List ℕ) → value_of w ≡ skipped → from_words bound (w ∷ ws) ≡ from_words bound ws
unfolding from_words
words-skip bound w ws e = ap (λ (l : List ℕ). l ++ from_words bound ws) (drawn-skipped bound e)

words-push : (bound w : ℕ) (ws : List ℕ) → (value_of w ≡ skipped → ⊥) → from_words bound (w ∷ ws) ≡ index_of bound (value_of w) ∷ from_words bound ws
unfolding from_words
words-push bound w ws o = ap (λ (l : List ℕ). l ++ from_words bound ws) (drawn-index bound o)

-- From the source's loop to a draw

-- a draw that first takes what there is
abbrev goes_on : (bound a wanted : ℕ) (there : List ℕ) → Tip5 → Draw
goes_on bound a n xs s = with_front (take n xs) (draw bound a (n - length (take n xs)) s)

loop-goes-on : {bound n : ℕ} {ws : List ℕ} {s : Tip5} {d : Draw} → Loop bound n ws s d → (a : ℕ) → d.squeezes ≤ a → goes_on bound a n (from_words bound ws) s ≡ d
unfolding draw from_ten from_words
loop-goes-on {bound} {s = s} full a h = draw-none bound a s
loop-goes-on (refill l) zero h = absurd (omega arith)
loop-goes-on {bound} {s = s} (refill {n = n} {d = d} l) (suc a) h =
    let here = take (suc n) (from_words bound (rate s)) in
    let rest = draw bound a (suc n - length here) (squeezed s) in
    let same : with_front here rest ≡ d = loop-goes-on l a (omega arith) in
    ap (λ (m : ℕ). draw bound (suc a) m s) (sub-zero (suc n))
    ∙ (λ i. record { indices = (same i).indices; squeezes = (one-add rest.squeezes ∙ ap (λ (e : Draw). suc e.squeezes) same) i; sponge = (same i).sponge })
loop-goes-on {bound} {s = s} (skip {n = n} {w = w} {ws = ws} e l) a h =
    ap (λ (xs : List ℕ). goes_on bound a (suc n) xs s) (words-skip bound w ws e) ∙ loop-goes-on l a h
loop-goes-on {bound} {s = s} (push {n = n} {w = w} {ws = ws} o l) a h =
    let x = index_of bound (value_of w) in
    let here = take n (from_words bound ws) in
    ap (λ (xs : List ℕ). goes_on bound a (suc n) xs s) (words-push bound w ws o)
    ∙ ap (λ (m : ℕ). with_front (x ∷ here) (draw bound a m s)) (suc-sub-suc n (length here))
    ∙ ap (with_front (x ∷ [])) (loop-goes-on l a h)

pub source-draw : {bound n : ℕ} {s : Tip5} {d : Draw} → SourceDraw bound n s d → (a : ℕ) → d.squeezes ≤ a → draw bound a n s ≡ d
unfolding from_words
source-draw {bound} {n} {s} l a h =
    ap (λ (m : ℕ). draw bound a m s) (sym (sub-zero n))
    ∙ ap (λ (xs : List ℕ). with_front xs (draw bound a (n - length xs) s)) (sym (take-nil n))
    ∙ loop-goes-on l a h

-- From a draw to the source's loop

loop-none : {bound n : ℕ} {ws : List ℕ} {s : Tip5} {d : Draw} → Loop bound n ws s d → n ≡ 0 → d ≡ nothing s
loop-none full e = refl
loop-none (refill l) e = absurd (omega arith)
loop-none (skip v l) e = absurd (omega arith)
loop-none (push o l) e = absurd (omega arith)

-- what the buffer draws, and the loop that goes on after it
buffer-loop : (bound n : ℕ) (ws : List ℕ) (s : Tip5) (d : Draw) → Loop bound (n - length (take n (from_words bound ws))) [] s d
    → Loop bound n ws s (with_front (take n (from_words bound ws)) d)
unfolding from_words
buffer-loop bound zero ws s d l = subst⁻¹ (λ (e : Draw). Loop bound 0 ws s e) (loop-none l refl) full
buffer-loop bound (suc n) [] s d l = subst (λ (m : ℕ). Loop bound m [] s d) (sub-zero (suc n)) l
buffer-loop bound (suc n) (w ∷ ws) s d l = go (ℕ_discrete (value_of w) skipped) (buffer-loop bound (suc n) ws s d) (buffer-loop bound n ws s d)
  where
    go : Dec (value_of w ≡ skipped)
        → (Loop bound (suc n - length (take (suc n) (from_words bound ws))) [] s d → Loop bound (suc n) ws s (with_front (take (suc n) (from_words bound ws)) d))
        → (Loop bound (n - length (take n (from_words bound ws))) [] s d → Loop bound n ws s (with_front (take n (from_words bound ws)) d))
        → Loop bound (suc n) (w ∷ ws) s (with_front (take (suc n) (from_words bound (w ∷ ws))) d)
    go (yes e) skipping pushing =
        subst⁻¹ (λ (xs : List ℕ). Loop bound (suc n) (w ∷ ws) s (with_front (take (suc n) xs) d)) (words-skip bound w ws e)
        (skip e (skipping (subst (λ (xs : List ℕ). Loop bound (suc n - length (take (suc n) xs)) [] s d) (words-skip bound w ws e) l)))
    go (no o) skipping pushing =
        subst⁻¹ (λ (xs : List ℕ). Loop bound (suc n) (w ∷ ws) s (with_front (take (suc n) xs) d)) (words-push bound w ws o)
        (push o (pushing (subst (λ (m : ℕ). Loop bound m [] s d) (suc-sub-suc n (length (take n (from_words bound ws)))) (subst (λ (xs : List ℕ). Loop bound (suc n - length (take (suc n) xs)) [] s d) (words-push bound w ws o) l))))

pub draw-source : (bound a n : ℕ) (s : Tip5) → n ≤ length (draw bound a n s).indices → SourceDraw bound n s (draw bound a n s)
unfolding draw from_ten
draw-source bound zero zero s h = full
draw-source bound zero (suc n) s h = absurd (omega arith)
draw-source bound (suc a) zero s h = full
draw-source bound (suc a) (suc n) s h =
    let here = take (suc n) (from_words bound (rate s)) in
    let rest = draw bound a (suc n - length here) (squeezed s) in
    subst⁻¹ (λ (k : ℕ). Loop bound (suc n) [] s (record { indices = here ++ rest.indices; squeezes = k; sponge = rest.sponge })) (one-add rest.squeezes)
    (refill (buffer-loop bound (suc n) (rate s) (squeezed s) rest (draw-source bound a (suc n - length here) (squeezed s) (omega (arith, length-append here rest.indices)))))

-- Calls

-- the source's loop ends: with its squeezes or more allowed the call draws the same
pub source-drawn : (s : Tip5) (bound allowance wanted : ℕ) {d : Draw} → draw_refusal s bound ≡ none → SourceDraw bound wanted s d → d.squeezes ≤ allowance
    → drawn s bound allowance wanted ≡ d
source-drawn s bound allowance wanted accepted l h =
    ap (λ (j : Judgement). unless j (draw bound allowance wanted s) (nothing s)) accepted ∙ source-draw l allowance h

-- the call is not refused: the source's loop ends, and draws the same
pub drawn-source : (s : Tip5) (bound allowance wanted : ℕ) {squeezes : ℕ} → (sample_indices s bound allowance wanted).0 ≡ Ok squeezes
    → SourceDraw bound wanted s (drawn s bound allowance wanted)
drawn-source s bound allowance wanted e =
    let all = accepted-all s bound allowance wanted e in
    go (draw_refusal s bound) all.0 all.1
  where
    go : (j : Judgement) → j ≡ none → wanted ≤ length (unless j (draw bound allowance wanted s) (nothing s)).indices
        → SourceDraw bound wanted s (unless j (draw bound allowance wanted s) (nothing s))
    go (Ok done) accepted all = draw-source bound allowance wanted s all
    go (Err refusal) accepted all = absurd (refused-not-none accepted)
