-- `matrix::generated_function` meets its contract: the matrices of the parts, multiplied, are 16 times the circulant.
-- Assumes nothing.
use Rattle.std.proofs.Common.{arith}
use Rattle.numbers.specs.Circulant.{row_sum}
use Rattle.matrix.proofs.Wrapping.{wraps, in-parts}
use Rattle.matrix.proofs.generated_function.Goals as goal

pub returns : goal.returns
unfolding row_sum
returns c =
    rw (c.cyclic.ensures, c.negacyclic_even.ensures, c.negacyclic_odd.ensures)
    (rw (c.sums-sums.ensures, c.differences-differences.ensures)
    (in-parts 8 (simp wraps (grind arith)) (simp wraps (grind arith))))
