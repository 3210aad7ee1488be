-- A larger allowance: it never alters an index that is found, and it changes nothing at all where none is missing.
-- Assumes nothing.
use mathlib.Core.Bool.{Bool, true, false, cond}
use mathlib.Core.List.{List, [], ◌∷◌, ◌++◌, append_assoc}
use mathlib.Core.Path.{◌≡◌, refl, ap, sym, ◌∙◌}
use Prim.Native.Nat.{ℕ, ◌+◌, ◌-◌, ◌≤◌, ◌<◌}
use native.Mathlib.Decide.{dec_le}
use native.Mathlib.Omega.{arith}
use borrow.Author.Tests.{ltb-false, ltb-true}
use lib.Dec.{ltb}
use lib.ListN.{drop, length, take}
use lib.Seq.{take-append_seam}
use Rattle.std.specs.Prelude.{Ok, Err}
use Rattle.refusals.specs.declared.refusal.Refusal.{Refusal}
use Rattle.refusals.specs.declared.refusal.Refusal.TheVariants.{BadWord, BadBound}
use Rattle.refusals.specs.Judge.{Judgement, all_below, first, none, unless}
use Rattle.sponge.specs.declared.Tip5.{Tip5}
use Rattle.draws.specs.declared.error.DrawError.TheVariants.{Refused, AllowanceSpent}
use Rattle.draws.specs.Answers.{counted, draw_answer, draw_refusal, drawn, sample_indices, sampled_slice}
use Rattle.draws.specs.Bound.{power_below}
use Rattle.draws.specs.Draw.{Draw, draw, joined, nothing}
use Rattle.draws.proofs.DrawLaws.{draw-add, draw-missing, draw-none, joined-nothing}
use Rattle.draws.proofs.ReportLaws.{reported}

-- Draws

-- with a larger allowance the draw goes on from where it would have ended
pub draw-goes-on : (bound : ℕ) {a b : ℕ} (n : ℕ) (s : Tip5) → a ≤ b
    → draw bound b n s ≡ (let d = draw bound a n s in joined d (draw bound (b - a) (n - length d.indices) d.sponge))
draw-goes-on bound {a} {b} n s h =
    let more : b ≡ a + (b - a) = omega arith in
    ap (λ (k : ℕ). draw bound k n s) more ∙ draw-add bound a (b - a) n s

-- where none is missing it does not go on
pub draw-enough : (bound : ℕ) {a b : ℕ} (n : ℕ) (s : Tip5) → a ≤ b → n ≤ length (draw bound a n s).indices → draw bound b n s ≡ draw bound a n s
draw-enough bound {a} {b} n s h all =
    let d = draw bound a n s in
    let none : n - length d.indices ≡ 0 = omega arith in
    draw-goes-on bound n s h
    ∙ ap (joined d) (ap (λ (k : ℕ). draw bound (b - a) k d.sponge) none ∙ draw-none bound (b - a) d.sponge)
    ∙ joined-nothing d

-- Calls

-- the indices of a call come first in one with a larger allowance
pub drawn-front : (s : Tip5) (bound : ℕ) {a b : ℕ} (wanted : ℕ) → a ≤ b
    → (more : List ℕ) × ((drawn s bound b wanted).indices ≡ (drawn s bound a wanted).indices ++ more)
drawn-front s bound {a} {b} wanted h = go (draw_refusal s bound)
  where
    go : (j : Judgement) → (more : List ℕ) × ((unless j (draw bound b wanted s) (nothing s)).indices ≡ (unless j (draw bound a wanted s) (nothing s)).indices ++ more)
    go (Ok done) = (_, ap (λ (d : Draw). d.indices) (draw-goes-on bound wanted s h))
    go (Err refusal) = ([], refl)

-- so the entries of the lent slice that are found stay
pub drawn-stays : (s : Tip5) (bound : ℕ) {a b : ℕ} (before : List ℕ) → a ≤ b
    → (let found = length (drawn s bound a (length before)).indices in take found (sampled_slice s bound b before) ≡ take found (sampled_slice s bound a before))
drawn-stays s bound {a} {b} before h =
    let few = (drawn s bound a (length before)).indices in
    let many = (drawn s bound b (length before)).indices in
    let front = drawn-front s bound (length before) h in
    ap (λ (l : List ℕ). take (length few) (l ++ drop (length many) before)) front.1
    ∙ ap (take (length few)) (append_assoc few front.0 (drop (length many) before))
    ∙ take-append_seam few (front.0 ++ drop (length many) before)
    ∙ sym (take-append_seam few (drop (length few) before))

-- and they are as many as the call reports
pub larger-allowance : (s : Tip5) (bound : ℕ) {a b : ℕ} (before : List ℕ) → a ≤ b
    → (let found = (counted (length before) (sample_indices s bound a (length before)).0).1.0 in take found (sampled_slice s bound b before) ≡ take found (sampled_slice s bound a before))
larger-allowance s bound {a} {b} before h =
    let found = ap (λ (counts : ℕ × ℕ). counts.0) (reported s bound a (length before)) in
    ap (λ (n : ℕ). take n (sampled_slice s bound b before)) found
    ∙ drawn-stays s bound before h
    ∙ sym (ap (λ (n : ℕ). take n (sampled_slice s bound a before)) found)

-- a call that is not refused found all that was wanted, and answers its squeezes
pub accepted-all : (s : Tip5) (bound a wanted : ℕ) {squeezes : ℕ} → (sample_indices s bound a wanted).0 ≡ Ok squeezes
    → (draw_refusal s bound ≡ none) × (wanted ≤ length (drawn s bound a wanted).indices) × (squeezes ≡ (drawn s bound a wanted).squeezes)
accepted-all s bound a wanted e = go (draw_refusal s bound) (drawn s bound a wanted) e
  where
    tested : (b : Bool) (d : Draw) {n : ℕ} → ltb (length d.indices) wanted ≡ b → cond b (Err (AllowanceSpent (length d.indices) d.squeezes)) (Ok d.squeezes) ≡ Ok n
        → (wanted ≤ length d.indices) × (n ≡ d.squeezes)
    tested true d t h = absurd (cc)
    tested false d t h = (ltb-false (length d.indices) wanted t, cc)

    go : (j : Judgement) (d : Draw) {n : ℕ} → draw_answer j wanted d ≡ Ok n → (j ≡ none) × (wanted ≤ length d.indices) × (n ≡ d.squeezes)
    go (Ok done) d h = let t = tested (ltb (length d.indices) wanted) d refl h in (refl, t.0, t.1)
    go (Err refusal) d h = absurd (cc)

-- and with a larger allowance it draws the same
pub accepted-larger : (s : Tip5) (bound : ℕ) {a b : ℕ} (wanted : ℕ) {squeezes : ℕ} → a ≤ b → (sample_indices s bound a wanted).0 ≡ Ok squeezes
    → drawn s bound b wanted ≡ drawn s bound a wanted
accepted-larger s bound {a} {b} wanted h e =
    let all = accepted-all s bound a wanted e in
    go (draw_refusal s bound) all.0 all.1
  where
    go : (j : Judgement) → j ≡ none → wanted ≤ length (unless j (draw bound a wanted s) (nothing s)).indices
        → unless j (draw bound b wanted s) (nothing s) ≡ unless j (draw bound a wanted s) (nothing s)
    go (Ok done) accepted all = draw-enough bound wanted s h all
    go (Err refusal) accepted all = refl

-- so every allowance that is enough gives the same draw
pub accepted-same : (s : Tip5) (bound a b wanted : ℕ) {m n : ℕ} → (sample_indices s bound a wanted).0 ≡ Ok m → (sample_indices s bound b wanted).0 ≡ Ok n
    → drawn s bound a wanted ≡ drawn s bound b wanted
accepted-same s bound a b wanted ea eb = go (dec_le a b)
  where
    go : Dec (a ≤ b) → drawn s bound a wanted ≡ drawn s bound b wanted
    go (yes h) = sym (accepted-larger s bound wanted h ea)
    go (no h) = accepted-larger s bound wanted (omega arith) eb

-- Refusals: the sponge or the bound, and nothing is drawn

pub refused-nothing : (s : Tip5) (bound a wanted : ℕ) {refusal : Refusal} → (sample_indices s bound a wanted).0 ≡ Err (Refused refusal)
    → (draw_refusal s bound ≡ Err refusal) × (drawn s bound a wanted ≡ nothing s)
refused-nothing s bound a wanted e = go (draw_refusal s bound) (draw bound a wanted s) e
  where
    tested : (b : Bool) (d : Draw) {refusal : Refusal} → cond b (Err (AllowanceSpent (length d.indices) d.squeezes)) (Ok d.squeezes) ≡ Err (Refused refusal) → ⊥
    tested true d h = cc
    tested false d h = cc

    go : (j : Judgement) (d : Draw) {refusal : Refusal} → draw_answer j wanted (unless j d (nothing s)) ≡ Err (Refused refusal) → (j ≡ Err refusal) × (unless j d (nothing s) ≡ nothing s)
    go (Ok done) d h = absurd (tested (ltb (length d.indices) wanted) d h)
    go (Err refusal) d h = (cc, refl)

-- Indices are missing, and the whole allowance is spent: by the error, which holds both counts

pub spent-allowance : (s : Tip5) (bound a wanted : ℕ) {found squeezes : ℕ} → (sample_indices s bound a wanted).0 ≡ Err (AllowanceSpent found squeezes)
    → (found ≡ length (drawn s bound a wanted).indices) × (squeezes ≡ (drawn s bound a wanted).squeezes) × (found < wanted) × (squeezes ≡ a)
spent-allowance s bound a wanted e = go (draw_refusal s bound) e
  where
    tested : (b : Bool) (d : Draw) {found squeezes : ℕ} → ltb (length d.indices) wanted ≡ b → cond b (Err (AllowanceSpent (length d.indices) d.squeezes)) (Ok d.squeezes) ≡ Err (AllowanceSpent found squeezes)
        → (found ≡ length d.indices) × (squeezes ≡ d.squeezes) × (length d.indices < wanted)
    tested true d t h = (cc, cc, ltb-true (length d.indices) wanted t)
    tested false d t h = absurd (cc)

    go : (j : Judgement) {found squeezes : ℕ} → (let d = unless j (draw bound a wanted s) (nothing s) in draw_answer j wanted d ≡ Err (AllowanceSpent found squeezes)
        → (found ≡ length d.indices) × (squeezes ≡ d.squeezes) × (found < wanted) × (squeezes ≡ a))
    go (Ok done) h =
        let d = draw bound a wanted s in
        let t = tested (ltb (length d.indices) wanted) d refl h in
        (t.0, t.1, omega (arith, t.0, t.2), t.1 ∙ draw-missing bound a wanted s t.2)
    go (Err refusal) h = absurd (cc)

-- and by the number 6, which no refusal before the draw has

only-six : (words bound : Bool) (wanted : ℕ) (d : Draw)
    → (let before = first (cond words none (Err BadWord) ∷ cond bound none (Err BadBound) ∷ []) in (counted wanted (draw_answer before wanted d)).0 ≡ 6 → before ≡ none)
only-six true true wanted d e = refl
only-six true false wanted d e = absurd (omega arith)
only-six false bound wanted d e = absurd (omega arith)

pub refused-six : (s : Tip5) (bound a wanted : ℕ)
    → (let answer = counted wanted (sample_indices s bound a wanted).0 in answer.0 ≡ 6 → (answer.1.0 < wanted) × (answer.1.1 ≡ a))
refused-six s bound a wanted e = go (draw_refusal s bound) (only-six (all_below s.state) (power_below 32 bound) wanted (drawn s bound a wanted) e) e
  where
    tested : (b : Bool) (d : Draw) → ltb (length d.indices) wanted ≡ b
        → (let answer = counted wanted (cond b (Err (AllowanceSpent (length d.indices) d.squeezes)) (Ok d.squeezes)) in answer.0 ≡ 6
        → (answer.1.0 < wanted) × (answer.1.1 ≡ d.squeezes) × (length d.indices < wanted))
    tested true d t h = let missing = ltb-true (length d.indices) wanted t in (missing, refl, missing)
    tested false d t h = absurd (omega arith)

    go : (j : Judgement) → j ≡ none
        → (let answer = counted wanted (draw_answer j wanted (unless j (draw bound a wanted s) (nothing s))) in answer.0 ≡ 6 → (answer.1.0 < wanted) × (answer.1.1 ≡ a))
    go (Ok done) accepted h =
        let d = draw bound a wanted s in
        let t = tested (ltb (length d.indices) wanted) d refl h in
        (t.0, t.1 ∙ draw-missing bound a wanted s t.2)
    go (Err refusal) accepted h = absurd (cc)
