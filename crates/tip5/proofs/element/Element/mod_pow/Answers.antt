-- `Element::mod_pow` meets its contract. The loop's invariant: found times square to the power of what is left is, modulo P,
-- the power that is wanted. The measure is what is left of the exponent.
-- Assumes nothing.
use mathlib.Core.Path.{◌≡◌, refl, ap, sym, ◌∙◌, subst⁻¹}
use Prim.Native.Nat.{ℕ, ◌*◌, ◌/◌, ◌%◌, ◌^◌, ◌<◌}
use native.Mathlib.Nat.{mul-one, one-mul, mul_assoc, mul_comm, pow-suc, pow-zero, div-add-mod'}
use native.Mathlib.Omega.{arith}
use lib.Dec.{lit<}
use Rattle.numbers.specs.Congruence.{Cong}
use Rattle.numbers.specs.Modulus.{P}
use Rattle.numbers.proofs.Congruence.{cong-eq, cong-mod, cong-mul, cong-pow, cong-trans}
use Rattle.numbers.proofs.Power.{pow-square}
use Rattle.rounds.specs.Field.{mul, power, value_of}
use Rattle.rounds.proofs.FieldLaws.{mul-below, raw_of-cong, raw_of-value_of, value_of-mul}
use Rattle.tip5.proofs.element.Element.mod_pow.Goals as goal
use Rattle.tip5.proofs.element.Element.mod_pow.Goals.{then-left-eq1, else-left-eq1}

-- one turn: the power of square by what is left is one of its square by half of that, and one by the odd bit
turn : (f s left : ℕ) {f' s' : ℕ} → Cong P f' (f * s ^ (left % 2)) → Cong P s' (s * s) → Cong P (f' * s' ^ (left / 2)) (f * s ^ left)
turn f s left hf hs =
    cong-trans (cong-mul hf (cong-pow (left / 2) hs))
    (cong-eq (mul_assoc f (s ^ (left % 2)) ((s * s) ^ (left / 2))
    ∙ ap (λ (n : ℕ). f * n) (mul_comm (s ^ (left % 2)) ((s * s) ^ (left / 2)) ∙ pow-square s (left / 2) (left % 2) ∙ ap (λ (e : ℕ). s ^ e) (div-add-mod' left 2))))

-- a product's value is, modulo P, that of the values
product-value : (a b : ℕ) {r : ℕ} → r ≡ mul a b → Cong P (value_of r) (value_of a * value_of b)
product-value a b e = cong-trans (cong-eq (ap value_of e ∙ value_of-mul a b)) cong-mod

first-power : (x : ℕ) → x ^ 1 ≡ x
first-power x = pow-suc x 0 ∙ ap (λ (n : ℕ). n * x) (pow-zero x) ∙ one-mul x

-- the odd bit, 1 or 0
odd : (f s left : ℕ) {f' : ℕ} → f' ≡ mul f s → left % 2 ≡ 1 → (f' < P) × Cong P (value_of f') (value_of f * value_of s ^ (left % 2))
odd f s left e one =
    (subst⁻¹ (λ (n : ℕ). n < P) e (mul-below f s), cong-trans (product-value f s e) (cong-eq (ap (λ (n : ℕ). value_of f * n) (sym (ap (λ (k : ℕ). value_of s ^ k) one ∙ first-power (value_of s))))))

even : (f s left : ℕ) {f' : ℕ} → f' ≡ f → f < P → left % 2 ≡ 0 → (f' < P) × Cong P (value_of f') (value_of f * value_of s ^ (left % 2))
even f s left e h none =
    (subst⁻¹ (λ (n : ℕ). n < P) e h, cong-eq (ap value_of e ∙ sym (ap (λ (k : ℕ). value_of f * value_of s ^ k) none ∙ ap (λ (n : ℕ). value_of f * n) (pow-zero (value_of s)) ∙ mul-one (value_of f))))

-- ONE has the value 1
one-value : value_of 4294967295 ≡ 1
unfolding value_of
one-value = refl

pub loop-left-init : goal.loop-left-init
loop-left-init c =
    (lit< tt, cong-eq (ap (λ (n : ℕ). n * value_of c.args.self ^ c.args.exponent) one-value ∙ one-mul _))

pub loop-left-preserved : goal.loop-left-preserved
loop-left-preserved c =
    let l = c.loop-left in
    let bit : (c.if-left-eq1.found < P) × Cong P (value_of c.if-left-eq1.found) (value_of l.found * value_of l.square ^ (l.left % 2)) =
    elim c.if-left-eq1.branch [
      | then-left-eq1 w ↦ odd l.found l.square l.left (w.found-is ∙ w.mul-found.ensures) w.if-left-eq1.true
      | else-left-eq1 w ↦ even l.found l.square l.left w.found-is l.invariant.0 (omega (arith, w.if-left-eq1.false))
    ] in
    (bit.0, cong-trans (turn (value_of l.found) (value_of l.square) l.left bit.1 (product-value l.square l.square c.mul-square.ensures)) l.invariant.1)

pub returns : goal.returns
unfolding power
returns c =
    let l = c.loop-left in
    let f = value_of l.found in
    let none : l.left ≡ 0 = omega arith in
    sym (raw_of-value_of l.invariant.0)
    ∙ raw_of-cong (cong-trans (cong-eq (sym (ap (λ (e : ℕ). f * value_of l.square ^ e) none ∙ ap (λ (n : ℕ). f * n) (pow-zero _) ∙ mul-one f))) l.invariant.1)
