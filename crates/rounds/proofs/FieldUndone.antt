-- What undoes a sum and a power on raw words below P.
-- Assumes nothing.
use mathlib.Core.Path.{◌≡◌, sym, ap, ◌∙◌}
use Prim.Native.Nat.{ℕ, ◌+◌, ◌-◌, ◌*◌, ◌%◌, ◌^◌, ◌<◌}
use native.Mathlib.Omega.{arith}
use Rattle.numbers.specs.Modulus.{P, root_exponent}
use Rattle.numbers.proofs.Congruence.{cong-add, cong-eq, cong-mod, cong-multiple, cong-refl, cong-remainder, cong-trans, mod-pow-pow}
use Rattle.numbers.proofs.Roots.{root-then-seventh, seventh-then-root}
use Rattle.rounds.specs.Field.{add, power, raw_of, sub, value_of}
use Rattle.rounds.proofs.FieldLaws.{raw_of-mod, raw_of-value_of, value_of-below, value_of-raw_of-mod}

-- Sums

pub sub-add : {a b : ℕ} → a < P → b < P → sub (add a b) b ≡ a
unfolding sub add
sub-add {a} {b} ha hb =
    cong-remainder (cong-trans (cong-add cong-mod cong-refl) (cong-trans (cong-eq (whole hb)) (cong-multiple 1))) ha
  where
    whole : b < P → a + b + (P - b) ≡ a + 1 * P
    whole h = omega arith

pub add-sub : {a b : ℕ} → a < P → b < P → add (sub a b) b ≡ a
unfolding sub add
add-sub {a} {b} ha hb =
    cong-remainder (cong-trans (cong-add cong-mod cong-refl) (cong-trans (cong-eq (whole hb)) (cong-multiple 1))) ha
  where
    whole : b < P → a + (P - b) + b ≡ a + 1 * P
    whole h = omega arith

-- Powers

-- a power of a power
pub power-power : (a j k : ℕ) → power (power a j) k ≡ power a (j * k)
unfolding power
power-power a j k =
    ap (λ (v : ℕ). raw_of (v ^ k)) (value_of-raw_of-mod (value_of a ^ j))
    ∙ sym (raw_of-mod ((value_of a ^ j % P) ^ k))
    ∙ ap raw_of (mod-pow-pow (value_of a) j k P)
    ∙ raw_of-mod (value_of a ^ (j * k))

-- two powers that undo each other on values do so on raw words
power-undone : (j k : ℕ) → ((x : ℕ) → x < P → (x ^ j % P) ^ k % P ≡ x) → {a : ℕ} → a < P → power (power a j) k ≡ a
unfolding power
power-undone j k back {a} h =
    ap (λ (v : ℕ). raw_of (v ^ k)) (value_of-raw_of-mod (value_of a ^ j))
    ∙ sym (raw_of-mod ((value_of a ^ j % P) ^ k))
    ∙ ap raw_of (back (value_of a) (value_of-below a))
    ∙ raw_of-value_of h

pub root-seventh : {a : ℕ} → a < P → power (power a 7) root_exponent ≡ a
root-seventh h = power-undone 7 root_exponent seventh-then-root h

pub seventh-root : {a : ℕ} → a < P → power (power a root_exponent) 7 ≡ a
seventh-root h = power-undone root_exponent 7 root-then-seventh h
