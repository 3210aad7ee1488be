-- `inverse_layers::subtract_constants` meets its contract.
-- Assumes nothing.
use native.Mathlib.Omega.{arith}
use Rattle.numbers.proofs.Fill.{filled-all}
use Rattle.rounds.specs.Inverse.{subtract_constants}
use Rattle.tip5.proofs.inverse_layers.subtract_constants.Goals as goal

pub returns : goal.returns
unfolding subtract_constants
returns c = filled-all c.loop-r.invariant (omega arith)
