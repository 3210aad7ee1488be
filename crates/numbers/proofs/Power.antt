-- Powers modulo a number, by squaring: what a computed certificate uses, since a number such as 7 ^ (P - 1) is too long to
-- write out; and that they are powers.
-- Assumes nothing.
use mathlib.Core.Path.{◌≡◌, sym, ap, ◌∙◌}
use Prim.Native.Nat.{ℕ, zero, suc, ◌+◌, ◌*◌, ◌/◌, ◌%◌, ◌^◌, ◌≤◌}
use native.Mathlib.Nat.{div-add-mod', le_refl, pow-zero}
use native.Mathlib.Omega.{arith}
use lib.Arith.{le-zero}
use lib.Pow.{pow-add}
use Rattle.std.proofs.lemmas.Nat.{mul-pow}
use Rattle.numbers.specs.Congruence.{Cong}
use Rattle.numbers.proofs.Congruence.{cong-eq, cong-mod, cong-mul, cong-pow, cong-refl, cong-trans}

-- x ^ e modulo m: the square of x to half of e, times x if e is odd. The depth bounds the number of halvings.
unfoldable pub pow_within : (depth m x e : ℕ) → ℕ
pow_within zero m x e = 1 % m
pow_within (suc d) m x zero = 1 % m
pow_within (suc d) m x (suc e) = pow_within d m (x * x % m) (suc e / 2) * x ^ (suc e % 2) % m

-- x ^ e modulo m: e can't be halved more than e times
unfoldable pub pow_mod : (m x e : ℕ) → ℕ
unfolding pow_within
pow_mod m x e = pow_within e m x e

-- a power from the power of the square
pub pow-square : (x q r : ℕ) → (x * x) ^ q * x ^ r ≡ x ^ (q * 2 + r)
pow-square x q r =
    ap (λ (n : ℕ). n * x ^ r) (mul-pow x x q ∙ sym (pow-add x q q)) ∙ sym (pow-add x (q + q) r)
    ∙ ap (λ (n : ℕ). x ^ n) (omega arith)

-- the same with a remainder taken at every step
pow-square-mod : (m x q r : ℕ) → Cong m ((x * x % m) ^ q % m * x ^ r) (x ^ (q * 2 + r))
pow-square-mod m x q r = cong-trans (cong-mul (cong-trans cong-mod (cong-pow q cong-mod)) cong-refl) (cong-eq (pow-square x q r))

-- where the depth is enough
pow_within-pow : (d m x e : ℕ) → e ≤ d → pow_within d m x e ≡ x ^ e % m
unfolding pow_within
pow_within-pow zero m x e h = rw (le-zero h, pow-zero)
pow_within-pow (suc d) m x zero h = rw pow-zero
pow_within-pow (suc d) m x (suc e) h =
    ap (λ (n : ℕ). n * x ^ (suc e % 2) % m) (pow_within-pow d m (x * x % m) (suc e / 2) (omega arith))
    ∙ (pow-square-mod m x (suc e / 2) (suc e % 2)).same
    ∙ ap (λ (n : ℕ). x ^ n % m) (div-add-mod' (suc e) 2)

-- pow_mod is the power's remainder, whatever the modulus
pub pow_mod-pow : (m x e : ℕ) → pow_mod m x e ≡ x ^ e % m
unfolding pow_mod
pow_mod-pow m x e = pow_within-pow e m x e (le_refl e)
