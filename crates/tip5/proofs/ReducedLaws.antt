-- The laws of the fast matrix layer's word: it is congruent to the row sum, it is one machine word, and a round constant mends
-- it. A round's proof uses these and not the definition.
-- Assumes nothing.
use mathlib.Core.Path.{◌≡◌, sym, ◌∙◌, subst}
use Prim.Native.Nat.{ℕ, zero, suc, ◌+◌, ◌-◌, ◌*◌, ◌/◌, ◌%◌, ◌^◌, ◌<◌, ◌≤◌}
use native.Mathlib.Nat.{div-add-mod', div-lt_iff_lt-mul, mod-lt}
use native.Mathlib.Omega.{arith}
use lib.Dec.{lit<}
use Rattle.numbers.specs.Congruence.{Cong}
use Rattle.numbers.specs.Modulus.{P}
use Rattle.numbers.proofs.Congruence.{cong-eq, cong-multiple, cong-sym, cong-trans}
use Rattle.rounds.proofs.ConstantLaws.{largest_mended}
use Rattle.tip5.specs.Reduced.{folded, reduced}

-- 2 ^ 64 is P more than what a fold puts in its place
fold-sum : (q r : ℕ) → q * 2 ^ 64 + r ≡ r + q * 4294967295 + q * P
fold-sum q r = omega arith

folded-cong : (n : ℕ) → Cong P (folded n) n
unfolding folded
folded-cong n =
    cong-sym
    (cong-trans (cong-eq (sym (div-add-mod' n (2 ^ 64)) ∙ fold-sum (n / 2 ^ 64) (n % 2 ^ 64))) (cong-multiple (n / 2 ^ 64)))

pub reduced-cong : (s : ℕ) → Cong P (reduced s) s
unfolding reduced
reduced-cong s = cong-trans (folded-cong (folded s)) (folded-cong s)

-- a sum of less than 2 ^ 96 takes two folds to come to one word

fold-once : {q r : ℕ} → q < 2 ^ 32 → r < 2 ^ 64 → r + q * 4294967295 ≤ 2 ^ 65 - 2 ^ 33
fold-once hq hr = omega arith

carry-again : (q : ℕ) {r : ℕ} → q * 2 ^ 64 + r ≤ 2 ^ 65 - 2 ^ 33 → r < 2 ^ 64 → r + q * 4294967295 < 2 ^ 64
carry-again zero h hr = omega arith
carry-again (suc zero) h hr = omega arith
carry-again (suc (suc q)) h hr = absurd (omega arith)

fold-again : {t : ℕ} → t ≤ 2 ^ 65 - 2 ^ 33 → folded t < 2 ^ 64
unfolding folded
fold-again {t} h =
    carry-again (t / 2 ^ 64) (subst (λ (n : ℕ). n ≤ 2 ^ 65 - 2 ^ 33) (sym (div-add-mod' t (2 ^ 64))) h) (mod-lt t (lit< tt))

pub reduced-word : {s : ℕ} → s < 2 ^ 96 → reduced s < 2 ^ 64
unfolding reduced folded
reduced-word {s} h = fold-again (fold-once ((div-lt_iff_lt-mul (lit< tt)).1 h) (mod-lt s (lit< tt)))

-- the repair: with any word and a constant of at most P - 2 ^ 32 + 1 the sum stays below 2 * P, so that one subtraction of P
-- is enough
pub mended : {w c : ℕ} → w < 2 ^ 64 → c ≤ largest_mended → (c ≤ P) × (w + c < 2 * P)
mended hw hc = omega arith
