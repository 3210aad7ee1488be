-- The steps of a draw: every squeeze that it made, one refused 6 included. The next sponge is the start after them, and the walk back
-- answers every earlier sponge.
-- Assumes nothing.
use mathlib.Core.List.{List, reverse, reverse_aux}
use mathlib.Core.Path.{◌≡◌, refl, ap, sym, ◌∙◌}
use Prim.Native.Nat.{ℕ, zero, suc, ◌+◌, ◌≤◌}
use native.Mathlib.Nat.{add-suc, add-zero, le_of_suc-le-suc, not-suc-le-zero, suc-add, zero-add}
use lib.ListN.{drop, length, replicate, take}
use Rattle.std.specs.Prelude.{Ok, Err}
use Rattle.refusals.specs.Judge.{Judgement, unless}
use Rattle.sponge.specs.declared.step_back.StepKind.TheVariants.{Squeeze}
use Rattle.sponge.specs.declared.Tip5.{Tip5}
use Rattle.sponge.specs.History.{after, run}
use Rattle.sponge.specs.History.Step.{squeeze}
use Rattle.sponge.specs.WalkBack.{Accepted, AllKept, Kept, walk}
use Rattle.sponge.proofs.WalkBack.{walk-back, walk-back-to}
use Rattle.draws.specs.Answers.{counted, draw_refusal, draw_steps, drawn, sample_indices}
use Rattle.draws.specs.Draw.{draw, nothing}
use Rattle.draws.proofs.AnswerLaws.{accepted-draw}
use Rattle.draws.proofs.DrawLaws.{draw-sponge, draw-squeezes}
use Rattle.draws.proofs.ReportLaws.{reported}

-- The steps

-- the next sponge is the start after them
pub drawn-sponge : (s : Tip5) (bound allowance wanted : ℕ) → (sample_indices s bound allowance wanted).1 ≡ run (draw_steps s bound allowance wanted) s
unfolding run
drawn-sponge s bound allowance wanted = go (draw_refusal s bound)
  where
    go : (j : Judgement) → (let d = unless j (draw bound allowance wanted s) (nothing s) in d.sponge ≡ run (replicate d.squeezes squeeze) s)
    go (Ok done) = draw-sponge bound allowance wanted s
    go (Err refusal) = refl

-- fewer squeezes are accepted too
fewer-accepted : {m : ℕ} (n : ℕ) (s : Tip5) → m ≤ n → Accepted (replicate n squeeze) s → Accepted (replicate m squeeze) s
fewer-accepted {m = zero} n s h accepted = tt
fewer-accepted {m = suc m} zero s h accepted = absurd (not-suc-le-zero h)
fewer-accepted {m = suc m} (suc n) s h accepted = (accepted.0, fewer-accepted {m = m} n (after squeeze s) (le_of_suc-le-suc h) accepted.1)

-- none of them is refused
pub drawn-accepted : (s : Tip5) (bound allowance wanted : ℕ) → Accepted (draw_steps s bound allowance wanted) s
drawn-accepted s bound allowance wanted = go (draw_refusal s bound) refl
  where
    go : (j : Judgement) → draw_refusal s bound ≡ j → Accepted (replicate (unless j (draw bound allowance wanted s) (nothing s)).squeezes squeeze) s
    go (Ok done) e = fewer-accepted allowance s (draw-squeezes bound allowance wanted s) (accepted-draw s bound allowance e).1
    go (Err refusal) e = tt

-- The walk back

-- the sponge that the draw began with
pub drawn-walk-back : (s : Tip5) (bound allowance wanted : ℕ) (ks : List Kept) → length s.state ≡ 16 → AllKept (draw_steps s bound allowance wanted) s ks
    → walk (reverse ks) (sample_indices s bound allowance wanted).1 ≡ Ok s
drawn-walk-back s bound allowance wanted ks e kept =
    ap (walk (reverse ks)) (drawn-sponge s bound allowance wanted) ∙ walk-back (draw_steps s bound allowance wanted) s ks e (drawn-accepted s bound allowance wanted) kept

-- the sponge before its squeeze k, for every k
pub drawn-walk-back-to : (k : ℕ) (s : Tip5) (bound allowance wanted : ℕ) (ks : List Kept) → length s.state ≡ 16 → AllKept (draw_steps s bound allowance wanted) s ks
    → walk (reverse (drop k ks)) (sample_indices s bound allowance wanted).1 ≡ Ok (run (take k (draw_steps s bound allowance wanted)) s)
drawn-walk-back-to k s bound allowance wanted ks e kept =
    ap (walk (reverse (drop k ks))) (drawn-sponge s bound allowance wanted) ∙ walk-back-to k (draw_steps s bound allowance wanted) s ks e (drawn-accepted s bound allowance wanted) kept

-- Nothing need be kept of a draw but the number of squeezes

-- what is kept of a squeeze beside any ten places
abbrev a_squeeze : (places : List ℕ) → Kept
a_squeeze places = record { kind = Squeeze; ten = places }

squeezes-kept : (n : ℕ) (s : Tip5) (places : List ℕ) → length places ≡ 10 → AllKept (replicate n squeeze) s (replicate n (a_squeeze places))
squeezes-kept zero s places e = tt
squeezes-kept (suc n) s places e = ((refl, e), squeezes-kept n (after squeeze s) places e)

-- equal entries are the same list from either end
reverse_aux-replicate : (n m : ℕ) (k : Kept) → reverse_aux (replicate n k) (replicate m k) ≡ replicate (n + m) k
reverse_aux-replicate zero m k = ap (λ (n : ℕ). replicate n k) (sym (zero-add m))
reverse_aux-replicate (suc n) m k = reverse_aux-replicate n (suc m) k ∙ ap (λ (n : ℕ). replicate n k) (add-suc n m ∙ sym (suc-add n m))

reverse-replicate : (n : ℕ) (k : Kept) → reverse (replicate n k) ≡ replicate n k
reverse-replicate n k = reverse_aux-replicate n 0 k ∙ ap (λ (n : ℕ). replicate n k) (add-zero n)

-- as many squeezes walked back as the draw made
pub draw-undone : (s : Tip5) (bound allowance wanted : ℕ) (places : List ℕ) → length s.state ≡ 16 → length places ≡ 10
    → walk (replicate (drawn s bound allowance wanted).squeezes (record { kind = Squeeze; ten = places })) (sample_indices s bound allowance wanted).1 ≡ Ok s
draw-undone s bound allowance wanted places e ten =
    let n = (drawn s bound allowance wanted).squeezes in
    ap (λ (ks : List Kept). walk ks (sample_indices s bound allowance wanted).1) (sym (reverse-replicate n (a_squeeze places)))
    ∙ drawn-walk-back s bound allowance wanted (replicate n (a_squeeze places)) e (squeezes-kept n s places ten)

-- which are those that the call reports
pub drawn-undone : (s : Tip5) (bound allowance wanted : ℕ) (places : List ℕ) → length s.state ≡ 16 → length places ≡ 10
    → (let answer = sample_indices s bound allowance wanted in
    walk (replicate (counted wanted answer.0).1.1 (record { kind = Squeeze; ten = places })) answer.1 ≡ Ok s)
drawn-undone s bound allowance wanted places e ten =
    let squeezes = ap (λ (counts : ℕ × ℕ). counts.1) (reported s bound allowance wanted) in
    ap (λ (n : ℕ). walk (replicate n (a_squeeze places)) (sample_indices s bound allowance wanted).1) squeezes
    ∙ draw-undone s bound allowance wanted places e ten
