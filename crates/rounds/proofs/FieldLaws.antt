-- The laws of the field on raw words.
-- Assumes nothing.
use mathlib.Core.Path.{◌≡◌, sym, ap, ◌∙◌}
use Prim.Native.Nat.{ℕ, ◌+◌, ◌*◌, ◌%◌, ◌^◌, ◌<◌}
use native.Mathlib.Nat.{mod-lt, mul_assoc, mul_comm, mul_left_comm, one-mul, pow-suc, pow-zero}
use lib.Dec.{lit<}
use lib.Pow.{pow-add}
use Rattle.numbers.specs.Modulus.{P, r_inv}
use Rattle.numbers.specs.Congruence.{Cong}
use Rattle.numbers.proofs.Congruence.{cong-add, cong-refl, mod-mul, mod-mul-left}
use Rattle.numbers.proofs.Montgomery.{raw-value-raw, value-raw-value}
use Rattle.rounds.specs.Field.{raw_of, value_of, add, sub, mul, power}

-- every answer is below P

pub raw_of-below : (v : ℕ) → raw_of v < P
unfolding raw_of
raw_of-below v = mod-lt _ (lit< tt)

pub value_of-below : (a : ℕ) → value_of a < P
unfolding value_of
value_of-below a = mod-lt _ (lit< tt)

pub add-below : (a b : ℕ) → add a b < P
unfolding add
add-below a b = mod-lt _ (lit< tt)

pub sub-below : (a b : ℕ) → sub a b < P
unfolding sub
sub-below a b = mod-lt _ (lit< tt)

pub mul-below : (a b : ℕ) → mul a b < P
unfolding mul
mul-below a b = mod-lt _ (lit< tt)

pub power-below : (a e : ℕ) → power a e < P
unfolding power
power-below a e = raw_of-below _

-- raw word and value undo each other below P

pub raw_of-value_of : {a : ℕ} → a < P → raw_of (value_of a) ≡ a
unfolding raw_of value_of
raw_of-value_of {a} h = raw-value-raw a h

pub value_of-raw_of : {v : ℕ} → v < P → value_of (raw_of v) ≡ v
unfolding raw_of value_of
value_of-raw_of {v} h = value-raw-value v h

-- the raw word of a number is that of its remainder
pub raw_of-mod : (v : ℕ) → raw_of (v % P) ≡ raw_of v
unfolding raw_of
raw_of-mod v = mod-mul-left v (2 ^ 64) P

pub raw_of-cong : {u v : ℕ} → Cong P u v → raw_of u ≡ raw_of v
raw_of-cong {u} {v} h = sym (raw_of-mod u) ∙ ap raw_of h.same ∙ raw_of-mod v

-- a product's value is the product of the values
pub value_of-mul : (a b : ℕ) → value_of (mul a b) ≡ value_of a * value_of b % P
unfolding value_of mul
value_of-mul a b =
    mod-mul-left (a * b * r_inv) r_inv P
    ∙ ap (λ (n : ℕ). n % P) (simp (mul_assoc, mul_comm, mul_left_comm))
    ∙ mod-mul (a * r_inv) (b * r_inv) P

-- powers

-- the value of any number's raw word
pub value_of-raw_of-mod : (v : ℕ) → value_of (raw_of v) ≡ v % P
value_of-raw_of-mod v = ap value_of (sym (raw_of-mod v)) ∙ value_of-raw_of (mod-lt v (lit< tt))

pub mul-power : (a j k : ℕ) → mul (power a j) (power a k) ≡ power a (j + k)
unfolding power
mul-power a j k =
    let x = raw_of (value_of a ^ j) in
    let y = raw_of (value_of a ^ k) in
    sym (raw_of-value_of (mul-below x y))
    ∙ ap raw_of (value_of-mul x y ∙ (λ i. value_of-raw_of-mod (value_of a ^ j) i * value_of-raw_of-mod (value_of a ^ k) i % P) ∙ sym (mod-mul (value_of a ^ j) (value_of a ^ k) P))
    ∙ raw_of-mod (value_of a ^ j * value_of a ^ k)
    ∙ ap raw_of (sym (pow-add (value_of a) j k))

pub power-one : {a : ℕ} → a < P → power a 1 ≡ a
unfolding power
power-one {a} h = ap raw_of (pow-suc (value_of a) 0 ∙ ap (λ (n : ℕ). n * value_of a) (pow-zero (value_of a)) ∙ one-mul (value_of a)) ∙ raw_of-value_of h

-- sums

pub add-cong : {a b : ℕ} (c : ℕ) → Cong P a b → add a c ≡ add b c
unfolding add
add-cong c h = (cong-add h cong-refl).same
