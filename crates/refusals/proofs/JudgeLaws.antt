-- The laws of judging: the test over a list passes if and only if every word is below P.
-- Assumes nothing.
use mathlib.Core.Path.{◌≡◌, refl, subst, sym}
use mathlib.Core.Bool.{Bool, true, false, cond}
use mathlib.Core.List.{List, [], ◌∷◌}
use Prim.Native.Nat.{ℕ, zero, suc, ◌<◌}
use native.Mathlib.Omega.{arith}
use borrow.Author.Tests.{lt-ltb}
use lib.Dec.{T, lit<, ltb, ltb→lt}
use Rattle.std.specs.Prelude.{Err, is_err}
use Rattle.std.specs.List.{All}
use Rattle.numbers.specs.Modulus.{P}
use Rattle.rounds.specs.Field.{Below}
use Rattle.refusals.specs.declared.refusal.Refusal.{Refusal}
use Rattle.refusals.specs.declared.refusal.Refusal.TheVariants.{BadWord}
use Rattle.refusals.specs.Judge.{Judgement, all_below, none, word_refusal}

-- a test after a test: both pass
both : (a b : Bool) → T (cond a b false) → T a × T b
both true b t = (tt, t)
both false b t = absurd t

-- the test says so
pub all_below-below : (s : List ℕ) → T (all_below s) → Below s
all_below-below [] t k = lit< tt
all_below-below (w ∷ s) t zero = ltb→lt w P (both (ltb w P) (all_below s) t).0
all_below-below (w ∷ s) t (suc k) = all_below-below s (both (ltb w P) (all_below s) t).1 k

-- and passes where it is so
pub below-all_below : (s : List ℕ) → Below s → all_below s ≡ true
below-all_below [] h = refl
below-all_below (w ∷ s) h = rw (lt-ltb w P (h 0)) (below-all_below s (λ k. h (suc k)))

-- then nothing is refused
pub below_accepted : (s : List ℕ) → Below s → word_refusal s ≡ none
below_accepted s h = rw (below-all_below s h)

-- a refusal is not none
pub refused-not-none : {refusal : Refusal} → Err refusal ≡ none → ⊥
refused-not-none e = subst (λ (j : Judgement). T (is_err j)) e tt

-- a judgement by a test that refuses nothing: the test passed
pub passed : (b : Bool) (refusal : Refusal) → cond b none (Err refusal) ≡ none → b ≡ true
passed true refusal e = refl
passed false refusal e = absurd (refused-not-none e)

-- and one by a test that does not pass
pub refused : (b : Bool) (refusal : Refusal) → (b ≡ true → ⊥) → cond b none (Err refusal) ≡ Err refusal
refused true refusal h = absurd (h refl)
refused false refusal h = refl

-- and where nothing is refused every word is below P
pub accepted_below : (s : List ℕ) → word_refusal s ≡ none → Below s
accepted_below s e = all_below-below s (rw (passed (all_below s) BadWord e) tt)

-- the same of each element that a list has

pub all-below : (s : List ℕ) → All (λ w. w < P) s → Below s
all-below [] h k = lit< tt
all-below (w ∷ s) h zero = h 0 0 (omega arith)
all-below (w ∷ s) h (suc k) = all-below s (λ i d l. h (suc i) d (omega arith)) k

pub below-all : (s : List ℕ) → Below s → All (λ w. w < P) s
below-all [] h k d l = absurd (omega arith)
below-all (w ∷ s) h zero d l = h 0
below-all (w ∷ s) h (suc k) d l = below-all s (λ i. h (suc i)) k d (omega arith)

-- what code answers that tested each element

pub accepted_all : (s : List ℕ) → All (λ w. w < P) s → none ≡ word_refusal s
accepted_all s h = sym (below_accepted s (all-below s h))

pub refused_some : (s : List ℕ) → (All (λ w. w < P) s → ⊥) → Err BadWord ≡ word_refusal s
refused_some s h = sym (refused (all_below s) BadWord (λ e. h (below-all s (all_below-below s (rw e tt)))))
