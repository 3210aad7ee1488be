-- The chain of products that raises four words to a power, side by side. A word counts by its remainder modulo P alone.
-- Assumes nothing.
use mathlib.Core.List.{List}
use mathlib.Core.Path.{◌≡◌, refl, sym, ap, ◌∙◌}
use Prim.Native.Nat.{ℕ, suc, ◌+◌, ◌*◌, ◌^◌, ◌<◌}
use native.Mathlib.Nat.{mod-lt}
use native.Mathlib.Numerals.{add-one}
use native.Mathlib.Omega.{arith}
use lib.Dec.{lit<}
use lib.ListN.{get_or}
use Rattle.numbers.specs.Congruence.{Cong}
use Rattle.numbers.specs.Lists.{tab}
use Rattle.numbers.specs.Modulus.{P}
use Rattle.numbers.proofs.Congruence.{cong-eq, cong-mod, cong-mul, cong-refl, cong-sym, cong-trans}
use Rattle.numbers.proofs.Lists.{get_or-tab₀, tab-same}
use Rattle.rounds.specs.Field.{Below, mul, power, raw_of, value_of}
use Rattle.rounds.proofs.FieldLaws.{mul-power, power-below, power-one}
use Rattle.rounds.proofs.FieldUndone.{power-power}
use Rattle.rounds.proofs.RoundLaws.{tab-below}
use Rattle.tip5.specs.Powers.{powers}

mul-cong : {a b c d : ℕ} → Cong P a b → Cong P c d → mul a c ≡ mul b d
unfolding mul
mul-cong h k = (cong-mul (cong-mul h k) cong-refl).same

power-cong : {a b : ℕ} (e : ℕ) → Cong P a b → power a e ≡ power b e
unfolding power value_of
power-cong e h = ap (λ (v : ℕ). raw_of (v ^ e)) (cong-mul h cong-refl).same

-- a word is its own first power
pub first-power : (a : ℕ) → Cong P a (power a 1)
first-power a =
    let m = mod-lt a (lit< tt) in
    cong-trans (cong-sym cong-mod) (cong-eq (sym (power-cong 1 (cong-sym cong-mod) ∙ power-one m)))

-- a product of two powers
pub product-power : (a j k : ℕ) {x y r : ℕ} → r ≡ mul x y → Cong P x (power a j) → Cong P y (power a k) → r ≡ power a (j + k)
product-power a j k e hx hy = e ∙ mul-cong hx hy ∙ mul-power a j k

-- one squaring more
pub squared-more : (a n : ℕ) {w r : ℕ} → Cong P w (power a (2 ^ n)) → r ≡ mul w w → Cong P r (power a (2 ^ (n + 1)))
squared-more a n h e = cong-eq (product-power a (2 ^ n) (2 ^ n) e h h ∙ ap (power a) (twice ∙ ap (λ (k : ℕ). 2 ^ k) (sym (add-one n))))
  where
    twice : 2 ^ n + 2 ^ n ≡ 2 ^ suc n
    twice = omega arith

-- all of them, then a product
pub squared-all : (a n u : ℕ) {w r : ℕ} → Cong P w (power a (2 ^ n)) → r ≡ mul w u → r ≡ mul (power a (2 ^ n)) u
squared-all a n u h e = e ∙ mul-cong h cong-refl

pub powers-below : (e : ℕ) (a : List ℕ) → Below (powers e a)
unfolding powers
powers-below e a = tab-below 4 0 λ k. power-below (get_or a k 0) e

-- each of four words is the power of its place's
pub record Raised (e : ℕ) (a x : List ℕ) : Type 0 where
  pub at : (i : ℕ) → i < 4 → Cong P (get_or x i 0) (power (get_or a i 0) e)

pub raised-one : (a : List ℕ) → Raised 1 a a
raised-one a = record { at = λ i h. first-power (get_or a i 0) }

pub raised-powers : (e : ℕ) (a : List ℕ) {x : List ℕ} → x ≡ powers e a → Raised e a x
unfolding powers
raised-powers e a h =
    record { at = λ i u. cong-eq (ap (λ (l : List ℕ). get_or l i 0) h ∙ get_or-tab₀ 4 (λ c. power (get_or a c 0) e) i u) }

-- one link of the chain: n squarings of the j-th powers, and the k-th powers
pub powers-accumulated : (a : List ℕ) (j k n : ℕ) {x y : List ℕ} → Raised j a x → Raised k a y
    → tab 4 0 (λ i. mul (power (get_or x i 0) (2 ^ n)) (get_or y i 0)) ≡ powers (j * 2 ^ n + k) a
unfolding powers
powers-accumulated a j k n {x} {y} hx hy =
    tab-same 4 0 λ i low high.
    product-power (get_or a i 0) (j * 2 ^ n) k refl
    (cong-eq (power-cong (2 ^ n) (hx.at i high) ∙ power-power (get_or a i 0) j (2 ^ n)))
    (hy.at i high)

-- a power of powers
pub powers-powers : (a : List ℕ) (j k : ℕ) → powers k (powers j a) ≡ powers (j * k) a
unfolding powers
powers-powers a j k =
    tab-same 4 0 λ i low high.
    ap (λ (v : ℕ). power v k) (get_or-tab₀ 4 (λ c. power (get_or a c 0) j) i high) ∙ power-power (get_or a i 0) j k
