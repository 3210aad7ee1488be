-- `inverse_layers::inv_mds_matrix_mul` meets its contract.
-- Assumes nothing.
use native.Mathlib.Omega.{arith}
use Rattle.numbers.proofs.Fill.{filled-all}
use Rattle.rounds.specs.Round.{circulant}
use Rattle.tip5.proofs.inverse_layers.inv_mds_matrix_mul.Goals as goal

pub returns : goal.returns
unfolding circulant
returns c = filled-all c.loop-r.invariant (omega arith)
