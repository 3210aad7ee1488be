-- The laws of numbers made of bytes and of their bit fields.
-- Assumes nothing.
use mathlib.Core.Path.{◌≡◌, ap₂, refl, sym, ap, ◌∙◌}
use mathlib.Core.List.{List, [], ◌∷◌, ◌++◌, append-nil}
use Prim.Native.Nat.{ℕ, zero, suc, ◌-◌, ◌+◌, ◌*◌, ◌^◌, ◌≤◌, ◌<◌}
use native.Mathlib.Nat.{add_assoc, add-mul, mod-lt, mul_assoc, zero-mul, zero-add}
use native.Mathlib.Omega.{arith}
use Rattle.numbers.proofs.Lists.{tab-get_or}
use lib.ListN.{length, take, drop, drop_of_length-le, replicate, length-append, length-drop}
use lib.Pow.{pow-add, pow_pos}
use lib.Seq.{length-take-le}
use Rattle.std.specs.Int.{from_be_bytes, w64}
use borrow.Rule.Slice.PartMut.{put_mid}
use Rattle.sheet.specs.Bits.{number, field}

-- Numbers

-- the number of two lists of bytes, one after the other
pub number-append : (xs ys : List ℕ) → number (xs ++ ys) ≡ number xs * 256 ^ length ys + number ys
unfolding number
number-append [] ys = sym (rw (zero-mul (256 ^ length ys), zero-add (number ys)))
number-append (x ∷ xs) ys =
    rw (number-append xs ys, length-append xs ys, pow-add 256 (length xs) (length ys), add-mul (x * 256 ^ length xs) (number xs) (256 ^ length ys))
    (rw (mul_assoc x (256 ^ length xs) (256 ^ length ys), add_assoc (x * (256 ^ length xs * 256 ^ length ys)) (number xs * 256 ^ length ys) (number ys)))

-- eight bytes are what `from_be_bytes` makes of them
pub number_word : (bytes : List ℕ) → length bytes ≡ 8 → from_be_bytes w64 bytes ≡ number bytes
unfolding number
number_word bytes h = omega (arith, ap number (tab-get_or bytes h))

-- zeros are nothing
number-zeros : (n k : ℕ) → number (take n (replicate k 0)) ≡ 0
unfolding number
number-zeros zero k = refl
number-zeros (suc n) zero = refl
number-zeros (suc n) (suc k) = omega (arith, number-zeros n k)

-- so are those in front of fewer bytes
pub number-padded : {m : ℕ} {copied : List ℕ} (bytes : List ℕ) → length bytes ≤ 8 → m ≡ length bytes → copied ≡ bytes
    → from_be_bytes w64 (put_mid (8 - length bytes) m (replicate 8 0) copied) ≡ number bytes
number-padded {m} {copied} bytes h e same =
    ap (λ (l : List ℕ). from_be_bytes w64 (zeros ++ l)) (ap₂ (λ (l r : List ℕ). l ++ r) same none ∙ append-nil bytes)
    ∙ number_word (zeros ++ bytes) (omega (arith, length-append zeros bytes, length-take-le (8 - length bytes) eight (omega arith)))
    ∙ number-append zeros bytes
    ∙ ap (λ (n : ℕ). n * 256 ^ length bytes + number bytes) (number-zeros (8 - length bytes) 8)
    ∙ omega arith
  where
    eight : List ℕ
    eight = replicate 8 0

    zeros : List ℕ
    zeros = take (8 - length bytes) eight

    none : drop m (drop (8 - length bytes) eight) ≡ []
    none = drop_of_length-le (drop (8 - length bytes) eight) (omega (arith, length-drop (8 - length bytes) eight))

-- Fields

-- a field is below the power of two of its width
pub field-below : (bytes : List ℕ) (offset width : ℕ) → field bytes offset width < 2 ^ width
unfolding field
field-below bytes offset width = mod-lt _ (pow_pos width)
