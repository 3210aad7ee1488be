-- `inverse_layers::subtract_constants` meets its contract.
-- Assumes nothing.
use lib.ListN.{get_or}
use Rattle.numbers.specs.Fill.{Filled}
use Rattle.rounds.specs.Field.{sub}
use Rattle.rounds.specs.Round.{constant}
use Rattle.tip5.proofs.inverse_layers.subtract_constants.Given as goal

abbrev pub invariant-loop-r : goal.invariant-loop-r
invariant-loop-r l = Filled 16 (λ k. sub (get_or l.words k 0) (constant l.round k)) l.r l.out
