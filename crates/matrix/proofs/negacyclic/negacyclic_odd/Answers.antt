-- `matrix::negacyclic::negacyclic_odd` meets its contract: each word, as a linear form, is its row of the matrix.
-- Assumes nothing.
use Rattle.std.proofs.Common.{arith}
use Rattle.matrix.proofs.Wrapping.{wraps}
use Rattle.matrix.proofs.negacyclic.negacyclic_odd.Goals as goal

pub returns : goal.returns
returns c = simp wraps (grind arith)
