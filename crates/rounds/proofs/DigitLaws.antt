-- The digits of a number in any base.
-- Assumes nothing.
use mathlib.Core.Path.{◌≡◌, sym, ap, ◌∙◌}
use Prim.Native.Nat.{ℕ, zero, suc, ◌+◌, ◌*◌, ◌/◌, ◌%◌, ◌^◌, ◌<◌}
use native.Mathlib.Nat.{
  add-suc,
  add-zero,
  div-add-mod',
  div-div-eq-div-mul,
  div-eq_of_lt,
  div-one,
  le_of_suc-le-suc,
  not-suc-le-zero,
  pow-suc,
  pow-succ',
  pow-zero,
  suc-add,
  zero-mul,
}
use native.Mathlib.Omega.{arith}
use lib.Arith.{digits_div, digits_mod}
use Rattle.numbers.specs.Lists.{total}

-- the number with the digits d i, d (i + 1), .., n of them, the lowest first
abbrev pub number : (B n i : ℕ) → (ℕ → ℕ) → ℕ
number B zero i d = 0
number B (suc n) i d = number B n (suc i) d * B + d i

-- as a sum of digits times powers of the base
pub total-number : (B n i : ℕ) (d : ℕ → ℕ) → total n i (λ k. d k * B ^ k) ≡ number B n i d * B ^ i
total-number B zero i d = sym (zero-mul (B ^ i))
total-number B (suc n) i d =
    ap (λ (t : ℕ). d i * B ^ i + t) (total-number B n (suc i) d ∙ ap (λ (p : ℕ). number B n (suc i) d * p) (pow-suc B i))
    ∙ omega arith

-- each digit can be read off
pub digit-number : (B n i : ℕ) {d : ℕ → ℕ} → ((k : ℕ) → d k < B) → (k : ℕ) → k < n → number B n i d / B ^ k % B ≡ d (i + k)
digit-number B zero i h k k< = absurd (not-suc-le-zero k<)
digit-number B (suc n) i {d} h zero k< =
    rw (pow-zero, div-one, add-zero) (digits_mod (number B n (suc i) d) (h i))
digit-number B (suc n) i {d} h (suc k) k< =
    rw (pow-succ', ← div-div-eq-div-mul, digits_div (number B n (suc i) d) (h i), add-suc, ← suc-add)
    (digit-number B n (suc i) h k (le_of_suc-le-suc k<))

-- and a number has its own digits
pub number-digits : (B n i w : ℕ) → w < B ^ (i + n) → number B n i (λ k. w / B ^ k % B) ≡ w / B ^ i
number-digits B zero i w h = sym (div-eq_of_lt (rw add-zero at h))
number-digits B (suc n) i w h =
    ap (λ (t : ℕ). t * B + w / B ^ i % B)
    (number-digits B n (suc i) w (rw (add-suc, ← suc-add) at h) ∙ rw (pow-suc, ← div-div-eq-div-mul))
    ∙ div-add-mod' (w / B ^ i) B
