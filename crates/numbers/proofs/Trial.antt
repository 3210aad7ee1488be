-- Small primes, by trial of every divisor that may be the smaller of two factors.
-- Assumes nothing.
use mathlib.Core.Path.{◌≡◌, refl, sym, ap, ◌∙◌}
use mathlib.Core.Bool.{Bool, true, false, not, ◌&&◌, ◌||◌}
use mathlib.Core.Logic.{inl, inr, by_cases}
use Prim.Native.Nat.{ℕ, zero, suc, ◌*◌, ◌/◌, ◌%◌, ◌≤◌, ◌<◌, suc-le-suc, zero-le}
use native.Mathlib.Nat.{le_of_lt, lt_of_not-le, mul_comm, mul-div_cancel', mul-le-mul, mul-le-mul_left, mul-mod_right, mul-one, zero-mul}
use native.Mathlib.Decide.{dec_le}
use native.Mathlib.Omega.{arith}
use lib.Dec.{T, T_not, eqb, eqb_refl, ltb, ltb→lt}
use lib.Ieee.Fits.{and_l, and_r}
use Rattle.numbers.proofs.Table.{each, each-fact, each-facts}
use Rattle.numbers.proofs.Divisors.{Prime}

-- c is too large to be the smaller of two factors of q, or it does not divide q
abbrev trial_at : (q c : ℕ) → Bool
trial_at q c = ltb q (c * c) || not (eqb (q % c) 0)

-- the test of a prime below 258 * 258
unfoldable pub trial : (q : ℕ) → Bool
trial q = ltb 1 q && (ltb q (258 * 258) && each (trial_at q) 256 2)

-- a disjunction whose left side fails
or-right : (a b : Bool) → T (a || b) → ¬ T a → T b
or-right true b t n = absurd (n tt)
or-right false b t n = t

-- the smaller of two factors is 1
smaller-factor : (q : ℕ) → 1 < q → q < 258 * 258 → ((c : ℕ) → 2 ≤ c → c < 258 → T (trial_at q c))
    → (c e : ℕ) → c * e ≡ q → c ≤ e → c ≡ 1
smaller-factor q more small tried zero e h c≤e = absurd (omega (arith, sym h ∙ zero-mul e))
smaller-factor q more small tried (suc zero) e h c≤e = refl
smaller-factor q more small tried (suc (suc k)) e h c≤e =
    absurd (T_not (eqb (q % c) 0) (or-right (ltb q (c * c)) (not (eqb (q % c) 0)) (tried c 2≤c c<258) not-over) divides)
  where
    c : ℕ
    c = suc (suc k)

    2≤c : 2 ≤ c
    2≤c = suc-le-suc (suc-le-suc zero-le)

    square : c * c ≤ q
    square = rw h at (mul-le-mul_left c c≤e)

    c<258 : c < 258
    c<258 = lt_of_not-le (λ (over : 258 ≤ c). omega (arith, mul-le-mul over over, square, small))

    not-over : ¬ T (ltb q (c * c))
    not-over t = omega (arith, ltb→lt q (c * c) t, square)

    divides : T (eqb (q % c) 0)
    divides = rw (← h, mul-mod_right) (eqb_refl 0)

-- a number whose smaller factors are 1 is prime
smaller-prime : {q : ℕ} → 1 < q → ((c e : ℕ) → c * e ≡ q → c ≤ e → c ≡ 1) → Prime q
smaller-prime {q} more smaller =
    record {
      more = more;
      divisors =
          λ c c∣q.
          by_cases (dec_le c (q / c)) (λ le. inl (smaller c (q / c) (mul-div_cancel' c c∣q) le))
          (λ gt. inr (itself c (mul-div_cancel' c c∣q) (le_of_lt (lt_of_not-le gt))));
    }
  where
    itself : (c : ℕ) → c * (q / c) ≡ q → q / c ≤ c → c ≡ q
    itself c h le = sym (mul-one c) ∙ ap (λ (e : ℕ). c * e) (sym (smaller (q / c) c (mul_comm (q / c) c ∙ h) le)) ∙ h

-- what passes the test is prime
pub trial-prime : (q : ℕ) → T (trial q) → Prime q
unfolding trial
trial-prime q t = smaller-prime more (smaller-factor q more small tried)
  where
    bounded : Bool
    bounded = ltb q (258 * 258)

    all : Bool
    all = each (trial_at q) 256 2

    more : 1 < q
    more = ltb→lt 1 q (and_l (ltb 1 q) (bounded && all) t)

    small : q < 258 * 258
    small = ltb→lt q (258 * 258) (and_l bounded all (and_r (ltb 1 q) (bounded && all) t))

    tried : (c : ℕ) → 2 ≤ c → c < 258 → T (trial_at q c)
    tried = each-fact (λ c. T (trial_at q c)) 256 2 (each-facts (trial_at q) 256 2 (and_r bounded all (and_r (ltb 1 q) (bounded && all) t)))
