-- A raw word is a value times 2^64 modulo P; r_inv leads back.
-- Assumes nothing.
use mathlib.Core.Path.{◌≡◌, refl}
use Prim.Native.Nat.{ℕ, ◌+◌, ◌-◌, ◌*◌, ◌%◌, ◌^◌, ◌<◌}
use native.Mathlib.Nat.{mul_assoc, mul-one}
use Rattle.numbers.specs.Congruence.{Cong}
use Rattle.numbers.specs.Modulus.{P, r_inv}
use Rattle.numbers.proofs.Congruence.{cong-eq, cong-mod, cong-mul, cong-refl, cong-remainder, cong-trans}

-- two factors whose product is 1 modulo m undo each other
pub factor-undone : (r s : ℕ) {m a : ℕ} → Cong m (r * s) 1 → a < m → a * r % m * s % m ≡ a
factor-undone r s {m} {a} h a< =
    cong-remainder
    (cong-trans (cong-mul cong-mod cong-refl)
    (cong-trans (cong-eq (mul_assoc a r s)) (cong-trans (cong-mul cong-refl h) (cong-eq (mul-one a)))))
    a<

-- what P is
pub P-value : P ≡ 2 ^ 64 - 2 ^ 32 + 1
P-value = refl

-- what r_inv is
pub r_inv-value : r_inv ≡ P - 2 ^ 32
r_inv-value = refl

-- r_inv is 2^(-64) modulo P
pub r_inv-inverse : 2 ^ 64 * r_inv % P ≡ 1
r_inv-inverse = refl

-- from a raw word to its value and back
pub raw-value-raw : (a : ℕ) → a < P → a * r_inv % P * 2 ^ 64 % P ≡ a
raw-value-raw a = factor-undone r_inv (2 ^ 64) (record { same = refl })

-- from a value to its raw word and back
pub value-raw-value : (a : ℕ) → a < P → a * 2 ^ 64 % P * r_inv % P ≡ a
value-raw-value a = factor-undone (2 ^ 64) r_inv (record { same = r_inv-inverse })
