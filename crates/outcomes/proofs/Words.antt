-- No second outcome: the calls of words and matrix.
-- Assumes nothing.
use Rattle.std.proofs.Common.{◌≡◌, Bool, true, false, refl}
use Rattle.std.specs.Int.{from_bool}
use Rattle.words.proofs.product.upper_product.Reads as upper-product
use Rattle.words.proofs.product.wrapping_mul.Reads as wrapping-mul
use Rattle.words.proofs.sum.overflowing_add.Reads as overflowing-add
use Rattle.words.proofs.sum.overflowing_sub.Reads as overflowing-sub
use Rattle.matrix.proofs.generated_function.Reads as generated-function
use Rattle.outcomes.specs.Outcome.{OneAnswer}
use Rattle.outcomes.proofs.Same.{same}

-- a flag is known by its number
same-flag : (b d : Bool) → from_bool b ≡ from_bool d → b ≡ d
same-flag true true e = refl
same-flag false false e = refl
same-flag true false e = cc
same-flag false true e = cc

pub upper-product-once : OneAnswer upper-product.Learnt
upper-product-once κs a x y e f h k = same h k

pub wrapping-mul-once : OneAnswer wrapping-mul.Learnt
wrapping-mul-once κs a x y e f h k = same h k

pub overflowing-add-once : OneAnswer overflowing-add.Learnt
overflowing-add-once κs a x y e f h k = λ i. (same h.0 k.0 i, same-flag x.1 y.1 (same h.1 k.1) i)

pub overflowing-sub-once : OneAnswer overflowing-sub.Learnt
overflowing-sub-once κs a x y e f h k = λ i. (same h.0 k.0 i, same-flag x.1 y.1 (same h.1 k.1) i)

pub generated-function-once : OneAnswer generated-function.Learnt
generated-function-once κs a x y e f h k = same h k
