-- The laws of congruence: an equivalence that sums, products, powers and totals keep. First the same as equations between remainders.
-- Assumes nothing.
use mathlib.Core.Path.{◌≡◌, refl, sym, ap, ◌∙◌}
use Prim.Native.Nat.{ℕ, zero, suc, ◌+◌, ◌*◌, ◌%◌, ◌^◌, ◌<◌}
use native.Mathlib.Nat.{
  add-mod,
  add-mul-mod_self_right,
  add_right_cancel,
  mod-eq_of_lt,
  mod-mod,
  mod-zero,
  mul-one,
  mul-suc,
  mul-zero,
  pow-suc,
  pow-zero,
}
use native.Mathlib.Omega.{arith}
use lib.Pow.{pow-add}
-- std's laws of a power of a product, and of a product or a power whose factors may be reduced first, by the names that the laws here use
pub use Rattle.std.proofs.lemmas.Nat.{mul-mod as mod-mul, mul-mod_first as mod-mul-left, mul-mod_second as mod-mul-right, mul-pow, pow-mod as mod-pow}
use Rattle.numbers.specs.Congruence.{Cong}
use Rattle.numbers.specs.Lists.{total}

-- Powers

-- a power of a power
pub pow-pow : (a j k : ℕ) → (a ^ j) ^ k ≡ a ^ (j * k)
pow-pow a j zero = pow-zero (a ^ j) ∙ sym (ap (λ (n : ℕ). a ^ n) (mul-zero j) ∙ pow-zero a)
pow-pow a j (suc k) =
    pow-suc (a ^ j) k ∙ ap (λ (n : ℕ). n * a ^ j) (pow-pow a j k)
    ∙ sym (ap (λ (n : ℕ). a ^ n) (mul-suc j k) ∙ pow-add a (j * k) j)

-- a power of 1
pub one-pow : (k : ℕ) → 1 ^ k ≡ 1
one-pow zero = pow-zero 1
one-pow (suc k) = pow-suc 1 k ∙ mul-one (1 ^ k) ∙ one-pow k

-- Remainders

-- a power of a reduced power
pub mod-pow-pow : (a j k m : ℕ) → (a ^ j % m) ^ k % m ≡ a ^ (j * k) % m
mod-pow-pow a j k m = mod-pow (a ^ j) k m ∙ ap (λ (n : ℕ). n % m) (pow-pow a j k)

-- Congruence

-- every number is congruent to itself
pub cong-refl : {m a : ℕ} → Cong m a a
cong-refl = record { same = refl }

-- congruence goes both ways
pub cong-sym : {m a b : ℕ} → Cong m a b → Cong m b a
cong-sym h = record { same = sym h.same }

-- and through a number between
pub cong-trans : {m a b c : ℕ} → Cong m a b → Cong m b c → Cong m a c
cong-trans h k = record { same = h.same ∙ k.same }

-- equal numbers are congruent
pub cong-eq : {m a b : ℕ} → a ≡ b → Cong m a b
cong-eq {m} e = record { same = ap (λ (n : ℕ). n % m) e }

-- a number and its remainder
pub cong-mod : {m a : ℕ} → Cong m (a % m) a
cong-mod {m} {a} = record { same = mod-mod a m }

-- a number and the same with a multiple of the modulus added
pub cong-multiple : {m a : ℕ} (k : ℕ) → Cong m (a + k * m) a
cong-multiple {m} {a} k = record { same = add-mul-mod_self_right a k m }

-- below the modulus, congruent numbers are equal
pub cong-below : {m a b : ℕ} → Cong m a b → a < m → b < m → a ≡ b
cong-below h a< b< = sym (mod-eq_of_lt a<) ∙ h.same ∙ mod-eq_of_lt b<

-- below the modulus, a number is the remainder of whatever is congruent to it
pub cong-remainder : {m a b : ℕ} → Cong m a b → b < m → a % m ≡ b
cong-remainder h b< = h.same ∙ mod-eq_of_lt b<

-- sums of congruent numbers
pub cong-add : {m a b c d : ℕ} → Cong m a b → Cong m c d → Cong m (a + c) (b + d)
cong-add {m} {a} {b} {c} {d} h k = record { same = add-mod a c m ∙ rw (h.same, k.same) (sym (add-mod b d m)) }

-- products of congruent numbers
pub cong-mul : {m a b c d : ℕ} → Cong m a b → Cong m c d → Cong m (a * c) (b * d)
cong-mul {m} {a} {b} {c} {d} h k = record { same = mod-mul a c m ∙ rw (h.same, k.same) (sym (mod-mul b d m)) }

-- powers of congruent numbers
pub cong-pow : {m a b : ℕ} (k : ℕ) → Cong m a b → Cong m (a ^ k) (b ^ k)
cong-pow {m} {a} {b} k h = record { same = sym (mod-pow a k m) ∙ ap (λ (n : ℕ). n ^ k % m) h.same ∙ mod-pow b k m }

-- powers of a number that is congruent to 1
pub cong-one-pow : {m a : ℕ} (k : ℕ) → Cong m a 1 → Cong m (a ^ k) 1
cong-one-pow k h = cong-trans (cong-pow k h) (cong-eq (one-pow k))

-- a number that was added on both sides may be taken away
pub cong-add-cancel : {m a b : ℕ} (c : ℕ) → Cong m (a + c) (b + c) → Cong m a b
cong-add-cancel {m = zero} {a} {b} c h =
    cong-eq (add_right_cancel c (sym (mod-zero (a + c)) ∙ h.same ∙ mod-zero (b + c)))
cong-add-cancel {m = suc m} {a} {b} c h = cong-trans (cong-sym (whole a)) (cong-trans (cong-add h cong-refl) (whole b))
  where
    whole : (x : ℕ) → Cong (suc m) (x + c + m * c) x
    whole x = cong-trans (cong-eq (omega arith)) (cong-multiple c)

-- totals of summands that are congruent one by one
pub cong-total : {m : ℕ} (n i : ℕ) {f g : ℕ → ℕ} → ((c : ℕ) → Cong m (f c) (g c)) → Cong m (total n i f) (total n i g)
cong-total zero i h = cong-refl
cong-total (suc n) i h = cong-add (h i) (cong-total n (suc i) h)
