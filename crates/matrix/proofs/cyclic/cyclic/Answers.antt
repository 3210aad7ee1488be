-- `matrix::cyclic::cyclic` meets its contract: each word, as a linear form, is its row of the matrix.
-- Assumes nothing.
use Rattle.std.proofs.Common.{arith}
use Rattle.matrix.proofs.Wrapping.{wraps, in-parts}
use Rattle.matrix.proofs.cyclic.cyclic.Goals as goal

pub returns : goal.returns
returns c = in-parts 4 (simp wraps (grind arith)) (simp wraps (grind arith))
