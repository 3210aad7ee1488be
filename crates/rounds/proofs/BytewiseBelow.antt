-- A word below P stays below P under a function on bytes that takes 0 to 0, and 255 and no other byte to 255: such a word has a
-- byte that is not 255 among its upper four, or it is P - 1.
-- Assumes nothing.
use mathlib.Core.Path.{◌≡◌, ap, subst}
use mathlib.Core.Logic.{◌⊎◌, inl, inr, ⊎_elim}
use Prim.Native.Nat.{ℕ, ◌+◌, ◌-◌, ◌*◌, ◌/◌, ◌%◌, ◌^◌, ◌<◌}
use native.Mathlib.Nat.{eq-or-lt_of_le, le_of_suc-le-suc}
use native.Mathlib.Omega.{arith}
use lib.Dec.{lit<}
use Rattle.numbers.specs.Modulus.{P}
use Rattle.rounds.specs.Round.{bytewise}
use Rattle.rounds.proofs.BytewiseUndone.{Bytes, byte-below, bytewise-whole}

-- a function that takes 0 to 0, and 255 and no other byte to 255
pub record Ends (f : ℕ → ℕ) : Type 0 where
  pub lowest : f 0 ≡ 0
  pub highest : f 255 ≡ 255
  pub between : (b : ℕ) → b < 255 → f b < 255

-- a byte is 255, or it is less before and after
either : {f : ℕ → ℕ} → Ends f → {b : ℕ} → b < 256 → (b ≡ 255) ⊎ (f b < 255)
either e {b} h = ⊎_elim (λ x. inl x) (λ x. inr (e.between b x)) (eq-or-lt_of_le (le_of_suc-le-suc h))

-- so it is a function from bytes to bytes
pub ends-bytes : {f : ℕ → ℕ} → Ends f → Bytes f
ends-bytes {f} e b h = ⊎_elim (λ x. omega (arith, ap f x, e.highest)) (λ x. omega arith) (either e h)

-- eight bytes of which one of the upper four is not 255 make a word below P
not-all-255 : {x₀ x₁ x₂ x₃ x₄ x₅ x₆ x₇ : ℕ} → x₀ < 256 → x₁ < 256 → x₂ < 256 → x₃ < 256 → x₄ < 256 → x₅ < 256 → x₆ < 256 → x₇ < 256
    → x₄ + x₅ + x₆ + x₇ < 1020
    → x₀ * 256 ^ 0 + (x₁ * 256 ^ 1 + (x₂ * 256 ^ 2 + (x₃ * 256 ^ 3 + (x₄ * 256 ^ 4 + (x₅ * 256 ^ 5 + (x₆ * 256 ^ 6 + (x₇ * 256 ^ 7 + 0))))))) < P
not-all-255 h₀ h₁ h₂ h₃ h₄ h₅ h₆ h₇ h = omega arith

-- a word below P whose upper four bytes are 255 is P - 1
all-255 : {w : ℕ} → w < P → w / 256 ^ 4 % 256 ≡ 255 → w / 256 ^ 5 % 256 ≡ 255 → w / 256 ^ 6 % 256 ≡ 255 → w / 256 ^ 7 % 256 ≡ 255 → P - 1 ≡ w
unfolding bytewise
all-255 {w} h e₄ e₅ e₆ e₇ = omega (arith, bytewise-whole w (omega arith))

-- so a word below P stays below P
pub bytewise-below : {f : ℕ → ℕ} → Ends f → {w : ℕ} → w < P → bytewise f w < P
unfolding bytewise
bytewise-below {f} e {w} h =
    ⊎_elim
    (λ e₄. ⊎_elim
    (λ e₅. ⊎_elim
    (λ e₆. ⊎_elim
    (λ e₇. subst (λ (n : ℕ). bytewise f n < P) (all-255 h e₄ e₅ e₆ e₇) last)
    (λ s. small (omega (arith, b 4, b 5, b 6)))
    (at 7))
    (λ s. small (omega (arith, b 4, b 5, b 7)))
    (at 6))
    (λ s. small (omega (arith, b 4, b 6, b 7)))
    (at 5))
    (λ s. small (omega (arith, b 5, b 6, b 7)))
    (at 4)
  where
    at : (k : ℕ) → (w / 256 ^ k % 256 ≡ 255) ⊎ (f (w / 256 ^ k % 256) < 255)
    at k = either e (byte-below w k)

    b : (k : ℕ) → f (w / 256 ^ k % 256) < 256
    b k = ends-bytes e _ (byte-below w k)

    small : f (w / 256 ^ 4 % 256) + f (w / 256 ^ 5 % 256) + f (w / 256 ^ 6 % 256) + f (w / 256 ^ 7 % 256) < 1020 → bytewise f w < P
    small = not-all-255 (b 0) (b 1) (b 2) (b 3) (b 4) (b 5) (b 6) (b 7)

    last : bytewise f (P - 1) < P
    last = rw (e.lowest, e.highest) (lit< tt)
