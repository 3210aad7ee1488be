-- A certificate, computed, that the powers of g reach every number from 1 to n modulo n + 1; hence x ^ n is 1 there, and x ^ (j * n + 1) is x.
-- n and g stay variables here: at the numbers that are meant, antt could not compute g ^ n.
-- Assumes nothing.
use mathlib.Core.Path.{◌≡◌, sym, ap, ◌∙◌}
use mathlib.Core.Bool.{Bool, not, ◌&&◌}
use mathlib.Core.List.{List}
use mathlib.Core.Logic.{◌≢◌, by_cases}
use Prim.Native.Nat.{ℕ, zero, suc, pred, ◌+◌, ◌-◌, ◌*◌, ◌/◌, ◌%◌, ◌^◌, ◌≤◌, ◌<◌, ◌∣◌, suc-le-suc, zero-le}
use native.Mathlib.Nat.{
  add-sub_of_le,
  div-eq_of_eq-mul_left,
  div-mul_cancel,
  dvd-mul_left,
  le_of_dvd,
  le_of_lt,
  lt_of_le_of_lt,
  mod-add-div,
  mod-eq_of_lt,
  mod-lt,
  mul_assoc,
  mul_comm,
  mul-div_cancel',
  mul-one,
  mul-zero,
  ne_of_gt,
  ne_of_lt,
  one-mul,
  pos_of_ne-zero,
  pow-suc,
  sub-add_cancel,
  zero-mod,
  zero-mul,
}
use native.Mathlib.Decide.{dec_lt}
use native.Mathlib.Numerals.{add-one}
use native.Mathlib.Omega.{arith}
use lib.Dec.{T, T_not, eqb, eqb_refl}
use lib.Ieee.Fits.{and_l, and_r}
use lib.Pow.{pow-add}
use Rattle.numbers.specs.Congruence.{Cong}
use Rattle.numbers.proofs.Power.{pow_mod, pow_mod-pow}
use Rattle.numbers.proofs.Table.{every}
use Rattle.numbers.proofs.Congruence.{cong-eq, cong-below, cong-mul, cong-one-pow, cong-pow, cong-refl, cong-remainder, cong-sym, cong-trans, pow-pow}
use Rattle.numbers.proofs.Divisors.{Closed, Common, Prime, common, prime-factor, product}
use Rattle.numbers.proofs.Pigeonhole.{reaches}
use Rattle.numbers.proofs.Trial.{trial, trial-prime}

-- q is prime, and the power of g by n / q is not 1
abbrev pub factor_test : (n g q : ℕ) → Bool
factor_test n g q = trial q && not (eqb (pow_mod (suc n) g (n / q)) 1)

-- the test's first half
factor-prime : (n g q : ℕ) → T (factor_test n g q) → Prime q
factor-prime n g q t = trial-prime q (and_l (trial q) (not (eqb (pow_mod (suc n) g (n / q)) 1)) t)

-- the test's second half
factor-not-one : (n g q : ℕ) → T (factor_test n g q) → pow_mod (suc n) g (n / q) ≢ 1
factor-not-one n g q t e =
    T_not (eqb (pow_mod (suc n) g (n / q)) 1) (and_r (trial q) (not (eqb (pow_mod (suc n) g (n / q)) 1)) t) (rw e (eqb_refl 1))

-- g ^ n is 1 modulo n + 1, and n is a product of primes q at which g ^ (n / q) is not
pub record Certificate (n g : ℕ) (qs : List ℕ) : Type 0 where
  pub whole : product qs ≡ n
  pub one : pow_mod (suc n) g n ≡ 1
  pub tested : T (every (λ k q. factor_test n g q) 0 qs)

-- the exponents at which a power is 1 are closed under remainders
one-closed : (m g : ℕ) → Closed (λ k. Cong m (g ^ k) 1)
one-closed m g a b ha hb = cong-trans (cong-sym (cong-trans (cong-eq split) (cong-trans (cong-mul cong-refl (cong-one-pow (a / b) hb)) one))) ha
  where
    split : g ^ a ≡ g ^ (a % b) * (g ^ b) ^ (a / b)
    split =
        ap (λ (k : ℕ). g ^ k) (sym (mod-add-div a b)) ∙ pow-add g (a % b) (b * (a / b))
        ∙ ap (λ (k : ℕ). g ^ (a % b) * k) (sym (pow-pow g b (a / b)))

    one : Cong m (g ^ (a % b) * 1) (g ^ (a % b))
    one = cong-eq (mul-one (g ^ (a % b)))

module _ {n g : ℕ} {qs : List ℕ} (cert : Certificate n g qs) (some : 0 < n) where
  -- g ^ n is 1
  full : Cong (suc n) (g ^ n) 1
  full = record { same = sym (pow_mod-pow (suc n) g n) ∙ cert.one ∙ sym (mod-eq_of_lt (suc-le-suc some)) }

  -- no power by a smaller divisor of n is 1: it would divide n / q for one of the primes q
  smaller-divisor : (c : ℕ) → c ∣ n → c < n → ¬ Cong (suc n) (g ^ c) 1
  smaller-divisor c c∣n c<n h = factor-not-one n g q found.1 (pow_mod-pow (suc n) g (n / q) ∙ cong-remainder is_one (suc-le-suc some))
    where
      factors : c * (n / c) ≡ n
      factors = mul-div_cancel' c c∣n

      found : (q : ℕ) × T (factor_test n g q) × (q ∣ n / c)
      found =
          prime-factor (factor_test n g) (factor-prime n g) 0 qs cert.tested (n / c)
          (rw cert.whole (rw factors at (dvd-mul_left (n / c) c))) (λ e. ne_of_lt c<n (sym (mul-one c) ∙ rw e at factors))

      q : ℕ
      q = found.0

      quotient : n / q ≡ c * (n / c / q)
      quotient =
          div-eq_of_eq-mul_left (le_of_lt (factor-prime n g q found.1).more)
          (sym (mul_assoc c (n / c / q) q ∙ ap (λ (k : ℕ). c * k) (div-mul_cancel q found.2) ∙ factors))

      is_one : Cong (suc n) (g ^ (n / q)) 1
      is_one = rw (quotient, ← pow-pow) (cong-one-pow (n / c / q) h)

  -- no smaller power is 1
  order : (d : ℕ) → 0 < d → d < n → ¬ Cong (suc n) (g ^ d) 1
  order d 0<d d<n h = smaller-divisor r.divisor r.left (lt_of_le_of_lt (le_of_dvd 0<d r.right) d<n) r.member
    where
      r : Common (λ k. Cong (suc n) (g ^ k) 1) n d
      r = common (λ k. Cong (suc n) (g ^ k) 1) (one-closed (suc n) g) full h

  -- a power of g may be cancelled: times g ^ (n - i) it is 1
  cancelled : (i : ℕ) {a b : ℕ} → i ≤ n → Cong (suc n) (a * g ^ i) (b * g ^ i) → Cong (suc n) a b
  cancelled i {a} {b} i≤n h = cong-trans (cong-sym (whole a)) (cong-trans (cong-mul h cong-refl) (whole b))
    where
      full-power : g ^ i * g ^ (n - i) ≡ g ^ n
      full-power = sym (pow-add g i (n - i)) ∙ ap (λ (k : ℕ). g ^ k) (add-sub_of_le i≤n)

      whole : (x : ℕ) → Cong (suc n) (x * g ^ i * g ^ (n - i)) x
      whole x =
          cong-trans (cong-eq (mul_assoc x (g ^ i) (g ^ (n - i)) ∙ ap (λ (k : ℕ). x * k) full-power))
          (cong-trans (cong-mul cong-refl full) (cong-eq (mul-one x)))

  -- no power by less than n is 0
  positive : (i : ℕ) → i < n → 0 < g ^ i % suc n
  positive i i<n =
      pos_of_ne-zero λ e.
      let h : Cong (suc n) 1 0 = cancelled i (le_of_lt i<n) (cong-trans (cong-eq (one-mul (g ^ i))) (record { same = rw (e, zero-mul, zero-mod) })) in
      ne_of_gt (suc-le-suc zero-le) (cong-below h (suc-le-suc some) (suc-le-suc zero-le))

  -- the powers by less than n are apart
  apart : (i j : ℕ) → i < j → j < n → ¬ Cong (suc n) (g ^ i) (g ^ j)
  apart i j i<j j<n h =
      order (j - i) (omega arith) (omega arith)
      (cong-sym (cancelled i (omega arith) (cong-trans (cong-eq (one-mul (g ^ i))) (cong-trans h (cong-eq split)))))
    where
      split : g ^ j ≡ g ^ (j - i) * g ^ i
      split = ap (λ (k : ℕ). g ^ k) (sym (sub-add_cancel (le_of_lt i<j))) ∙ pow-add g (j - i) i

  -- so they are told by their remainders
  distinct : (i j : ℕ) → i < n → j < n → Cong (suc n) (g ^ i) (g ^ j) → i ≡ j
  distinct i j i<n j<n h =
      by_cases (dec_lt i j) (λ i<j. absurd (apart i j i<j j<n h))
      (λ i≮j. by_cases (dec_lt j i) (λ j<i. absurd (apart j i j<i i<n (cong-sym h))) (λ j≮i. omega arith))

  -- and reach every number from 1 to n
  generated : (x : ℕ) → 0 < x → x < suc n → (k : ℕ) × Cong (suc n) (g ^ k) x
  generated x 0<x x< = (r.0, record { same = remainder ∙ sym (mod-eq_of_lt x<) })
    where
      below : (k : ℕ) → g ^ k % suc n < suc n
      below k = mod-lt (g ^ k) (suc-le-suc zero-le)

      r : (k : ℕ) × (k < n) × (pred (g ^ k % suc n) ≡ pred x)
      r =
          reaches n (λ k. pred (g ^ k % suc n)) (λ k k<n. omega (arith, positive k k<n, below k))
          (λ i j i<n j<n e. distinct i j i<n j<n (record { same = omega (arith, positive i i<n, positive j j<n) })) (pred x)
          (omega arith)

      remainder : g ^ r.0 % suc n ≡ x
      remainder = omega (arith, positive r.0 r.1, r.2)

  -- the n-th power of every number from 1 to n is 1
  fermat : (x : ℕ) → 0 < x → x < suc n → Cong (suc n) (x ^ n) 1
  fermat x 0<x x< =
      let (k, h) = generated x 0<x x< in
      cong-trans (cong-pow n (cong-sym h))
      (cong-trans (cong-eq (pow-pow g k n ∙ ap (λ (e : ℕ). g ^ e) (mul_comm k n) ∙ sym (pow-pow g n k))) (cong-one-pow k full))

  -- the power by one more than a multiple of n leads back
  pub power-returns : (j x : ℕ) → x < suc n → x ^ (j * n + 1) % suc n ≡ x
  power-returns j zero x< = rw (add-one (j * n), pow-suc, mul-zero, zero-mod)
  power-returns j (suc x) x< =
      rw (add-one (j * n), pow-suc, mul_comm j n, ← pow-pow)
      (cong-remainder (cong-trans (cong-mul (cong-one-pow j (fermat (suc x) (suc-le-suc zero-le) x<)) cong-refl) (cong-eq (one-mul (suc x)))) x<)
