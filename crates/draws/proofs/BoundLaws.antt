-- The laws of bounds: a bound is accepted if and only if it is 2 ^ k for some k below 32, and then it is not 0. Code looks whether
-- one bit of it is set.
-- Assumes nothing.
use mathlib.Core.Bool.{true, false, true≢false}
use mathlib.Core.Path.{◌≡◌, refl, ap, sym, ◌∙◌}
use Prim.Native.Nat.{ℕ, zero, suc, ◌+◌, ◌-◌, ◌*◌, ◌^◌, ◌<◌}
use native.Mathlib.Decide.{dec_lt, ℕ_discrete}
use native.Mathlib.Nat.{le_of_suc-le-suc}
use native.Mathlib.Omega.{arith}
use borrow.Author.Tests.{eq-eqb, ne_eqb}
use lib.Arith.{lt_of_le-ne}
use lib.Count.{ones}
use lib.Pow.{pow_pos}
use Rattle.std.specs.Prelude.{Result, Ok, Err}
use Rattle.std.proofs.lemmas.Nat.{ones_cat, zero_from_ones}
use Rattle.refusals.specs.declared.refusal.Refusal.{Refusal}
use Rattle.refusals.specs.declared.refusal.Refusal.TheVariants.{BadBound}
use Rattle.refusals.specs.Judge.{Judgement, granted, none}
use Rattle.refusals.proofs.JudgeLaws.{passed, refused, refused-not-none}
use Rattle.draws.specs.Bound.{bound_refusal, power_below}

-- the bound is 2 ^ k, and k is below n
pub record Power (n bound : ℕ) : Type 0 where
  pub k : ℕ
  pub below : k < n
  pub same : bound ≡ 2 ^ k

power-further : {n bound : ℕ} → Power n bound → Power (suc n) bound
power-further p = record { k = p.k; below = omega arith; same = p.same }

power-nearer : {n bound : ℕ} → Power (suc n) bound → (bound ≡ 2 ^ n → ⊥) → Power n bound
power-nearer {n} p other =
    let apart : p.k ≡ n → ⊥ = λ e. other (p.same ∙ ap (λ (k : ℕ). 2 ^ k) e) in
    record { k = p.k; below = lt_of_le-ne (le_of_suc-le-suc p.below) apart; same = p.same }

pub power-positive : {n bound : ℕ} → Power n bound → 0 < bound
power-positive p = omega (arith, pow_pos p.k)

-- One turn of the test

pub test-here : {bound : ℕ} (n : ℕ) → bound ≡ 2 ^ n → power_below (suc n) bound ≡ true
unfolding power_below
test-here {bound} n e = simp (eq-eqb bound (2 ^ n) e)

pub test-further : {bound : ℕ} (n : ℕ) → (bound ≡ 2 ^ n → ⊥) → power_below (suc n) bound ≡ power_below n bound
unfolding power_below
test-further {bound} n e = simp (ne_eqb bound (2 ^ n) e)

pub test-ends : (bound : ℕ) → power_below 0 bound ≡ false
unfolding power_below
test-ends bound = refl

-- The test is right

pub power-test : (n bound : ℕ) → Power n bound → power_below n bound ≡ true
power-test zero bound p = absurd (omega arith)
power-test (suc n) bound p = go (ℕ_discrete bound (2 ^ n)) (power-test n bound)
  where
    go : Dec (bound ≡ 2 ^ n) → (Power n bound → power_below n bound ≡ true) → power_below (suc n) bound ≡ true
    go (yes e) further = test-here n e
    go (no h) further = test-further n h ∙ further (power-nearer p h)

pub test-power : (n bound : ℕ) → power_below n bound ≡ true → Power n bound
test-power zero bound t = absurd (true≢false (sym t ∙ test-ends bound))
test-power (suc n) bound t = go (ℕ_discrete bound (2 ^ n)) (test-power n bound)
  where
    go : Dec (bound ≡ 2 ^ n) → (power_below n bound ≡ true → Power n bound) → Power (suc n) bound
    go (yes e) further = record { k = n; below = omega arith; same = e }
    go (no h) further = power-further (further (sym (test-further n h) ∙ t))

-- What is accepted

pub accepted-bound : (bound : ℕ) → bound_refusal bound ≡ none → Power 32 bound
accepted-bound bound e = test-power 32 bound (passed (power_below 32 bound) BadBound e)

pub bound-accepted : (bound : ℕ) → Power 32 bound → bound_refusal bound ≡ none
bound-accepted bound p = rw (power-test 32 bound p)

-- the bounds of the requirements, computed: 1 and 2 ^ 31 pass; 0, 3 and 2 ^ 31 + 1 are refused 3
pub worked-bounds : (bound_refusal 1 ≡ none) × (bound_refusal (2 ^ 31) ≡ none) × (bound_refusal 0 ≡ Err BadBound) × (bound_refusal 3 ≡ Err BadBound) × (bound_refusal (2 ^ 31 + 1) ≡ Err BadBound)
unfolding power_below
worked-bounds = (refl, refl, refl, refl, refl)

-- One bit

ones-none : ones 0 ≡ 0
unfolding ones
ones-none = refl

ones-high : (k r : ℕ) → r < 2 ^ k → ones (1 * 2 ^ k + r) ≡ 1 + ones r
unfolding ones
ones-high k r h = ones_cat k 1 r h

power-one : (k : ℕ) → ones (2 ^ k) ≡ 1
unfolding ones
power-one k =
    let e : 2 ^ k ≡ 1 * 2 ^ k + 0 = omega arith in
    ap ones e ∙ ones-high k 0 (pow_pos k)

-- the highest bit that there is room for is the one, or it is a lower one
one-power : (n bound : ℕ) → bound < 2 ^ n → ones bound ≡ 1 → Power n bound
one-power zero bound h e =
    let small : bound ≡ 0 = omega arith in
    absurd (omega (arith, ones-none, ap ones small))
one-power (suc n) bound h e = go (dec_lt bound (2 ^ n)) (one-power n bound)
  where
    go : Dec (bound < 2 ^ n) → (bound < 2 ^ n → ones bound ≡ 1 → Power n bound) → Power (suc n) bound
    go (yes low) further = power-further (further low e)
    go (no high) further =
        let r = bound - 2 ^ n in
        let split : bound ≡ 1 * 2 ^ n + r = omega arith in
        let bits : ones bound ≡ 1 + ones r = ap ones split ∙ ones-high n r (omega arith) in
        let rest : ones r ≡ 0 = omega arith in
        record { k = n; below = omega arith; same = omega (arith, zero_from_ones r rest) }

one-test : (bound : ℕ) → bound < 2 ^ 32 → ones bound ≡ 1 → power_below 32 bound ≡ true
one-test bound h e = power-test 32 bound (one-power 32 bound h e)

test-one : (bound : ℕ) → power_below 32 bound ≡ true → ones bound ≡ 1
test-one bound t = let p = test-power 32 bound t in ap ones p.same ∙ power-one p.k

-- what code answers that counted the bits

pub power_accepted : (bound : ℕ) → bound < 2 ^ 32 → ones bound ≡ 1 → none ≡ bound_refusal bound
power_accepted bound h e = sym (rw (one-test bound h e))

pub other_refused : (bound : ℕ) → (ones bound ≡ 1 → ⊥) → Err BadBound ≡ bound_refusal bound
other_refused bound h = sym (refused (power_below 32 bound) BadBound (λ t. h (test-one bound t)))

pub power_positive : (bound : ℕ) → bound < 2 ^ 32 → ones bound ≡ 1 → 0 < bound
power_positive bound h e = power-positive (one-power 32 bound h e)

-- a bound that is granted was not refused, and is the number that was judged

abbrev number_in : Result ℕ Refusal → ℕ → ℕ
number_in (Ok n) room = n
number_in (Err refusal) room = room

pub granted_bound : (j : Judgement) {b n : ℕ} → Ok b ≡ granted j n → (none ≡ j) × (b ≡ n)
granted_bound (Ok done) {b} {n} e = (refl, ap (λ (r : Result ℕ Refusal). number_in r b) e)
granted_bound (Err refusal) e = absurd (refused-not-none (sym (ap judged e)))
  where
    judged : Result ℕ Refusal → Judgement
    judged (Ok n) = none
    judged (Err refusal) = Err refusal
