-- Common divisors, and the prime divisors of a product of primes.
-- The one idea: a set of numbers that is closed under remainders has a common divisor of any two of its members as a member.
-- Assumes nothing.
use mathlib.Core.Path.{◌≡◌}
use mathlib.Core.Bool.{Bool}
use mathlib.Core.List.{List, [], ◌∷◌}
use mathlib.Core.Logic.{◌≢◌, ◌⊎◌, ⊎_elim, by_cases}
use Prim.Native.Nat.{ℕ, zero, suc, ◌*◌, ◌/◌, ◌%◌, ◌<◌, ◌∣◌, suc-le-suc, zero-le}
use native.Mathlib.Nat.{
  add-mul,
  dvd-add_iff_left,
  dvd-mod_iff,
  dvd-mul_right,
  dvd-mul_right_of_dvd,
  dvd_refl,
  dvd-zero,
  eq-one_of_dvd-one,
  le_of_suc-le-suc,
  lt_of_lt_of_le,
  lt-suc_self,
  mod-add-div,
  mod-lt,
  mul_right_comm,
  not-suc-le-zero,
  one-mul,
}
use native.Mathlib.Decide.{dec_dvd}
use lib.Dec.{T}
use lib.Ieee.Fits.{and_l, and_r}
use Rattle.numbers.proofs.Table.{every}

-- Common divisors

-- S holds of the remainder of any two numbers of which it holds
abbrev pub Closed : (S : ℕ → Type 0) → Type 0
Closed S = (a b : ℕ) → S a → S b → S (a % b)

-- a common divisor of a and b that is a member of S
pub record Common (S : ℕ → Type 0) (a b : ℕ) : Type 0 where
  pub divisor : ℕ
  pub left : divisor ∣ a
  pub right : divisor ∣ b
  pub member : S divisor

-- a step of Euclid's algorithm
common-step : {S : ℕ → Type 0} {a b : ℕ} → Common S b (a % b) → Common S a b
common-step r =
    record {
      divisor = r.divisor;
      left = (dvd-mod_iff r.divisor r.left).0 r.right;
      right = r.left;
      member = r.member;
    }

-- the algorithm takes at most b steps and one more
common-within : (S : ℕ → Type 0) → Closed S → (steps a b : ℕ) → b < steps → S a → S b → Common S a b
common-within S closed zero a b h sa sb = absurd (not-suc-le-zero h)
common-within S closed (suc d) a zero h sa sb = record { divisor = a; left = dvd_refl a; right = dvd-zero a; member = sa }
common-within S closed (suc d) a (suc b) h sa sb =
    common-step
    (common-within S closed d (suc b) (a % suc b) (lt_of_lt_of_le (mod-lt a (suc-le-suc zero-le)) (le_of_suc-le-suc h)) sb
    (closed a (suc b) sa sb))

-- any two members have a common divisor among the members
pub common : (S : ℕ → Type 0) → Closed S → {a b : ℕ} → S a → S b → Common S a b
common S closed {a} {b} = common-within S closed (suc b) a b (lt-suc_self b)

-- Primes

-- q has no divisors but 1 and itself
pub record Prime (q : ℕ) : Type 0 where
  pub more : 1 < q
  pub divisors : (c : ℕ) → c ∣ q → (c ≡ 1) ⊎ (c ≡ q)

-- a prime that does not divide e can be left out of a product that e divides
pub prime-left-out : {q : ℕ} → Prime q → (e rest : ℕ) → e ∣ q * rest → ¬ (q ∣ e) → e ∣ rest
prime-left-out {q} prime e rest h q∤e =
    ⊎_elim (λ (c≡1 : r.divisor ≡ 1). rw (c≡1, one-mul) at r.member)
    (λ (c≡q : r.divisor ≡ q). absurd (q∤e (rw c≡q at r.right)))
    (prime.divisors r.divisor r.left)
  where
    closed : Closed (λ m. e ∣ m * rest)
    closed a b ha hb =
        (dvd-add_iff_left e {m = a % b * rest} {n = b * (a / b) * rest} (rw mul_right_comm (dvd-mul_right_of_dvd e hb (a / b)))).1
        (rw (← add-mul, mod-add-div) ha)

    r : Common (λ m. e ∣ m * rest) q e
    r = common (λ m. e ∣ m * rest) closed h (dvd-mul_right e rest)

-- a list's product
abbrev pub product : List ℕ → ℕ
product [] = 1
product (x ∷ xs) = x * product xs

-- where all of a list's numbers pass a test of primes, each divisor of their product but 1 is divided by one of them
pub prime-factor : (test : ℕ → Bool) → ((q : ℕ) → T (test q) → Prime q)
    → (i : ℕ) (qs : List ℕ) → T (every (λ k q. test q) i qs)
    → (e : ℕ) → e ∣ product qs → e ≢ 1 → (q : ℕ) × T (test q) × (q ∣ e)
prime-factor test prime i [] t e h e≢1 = absurd (e≢1 (eq-one_of_dvd-one h))
prime-factor test prime i (q ∷ qs) t e h e≢1 =
    by_cases (dec_dvd q e) (λ q∣e. (q, passed, q∣e))
    (λ q∤e. prime-factor test prime (suc i) qs rest e (prime-left-out (prime q passed) e (product qs) h q∤e) e≢1)
  where
    passed : T (test q)
    passed = and_l (test q) (every (λ k q. test q) (suc i) qs) t

    rest : T (every (λ k q. test q) (suc i) qs)
    rest = and_r (test q) (every (λ k q. test q) (suc i) qs) t
