-- `permutation::permuted` meets its contract.
-- Assumes nothing.
use mathlib.Core.Path.{◌≡◌}
use Rattle.rounds.specs.Round.{rounds}
use Rattle.tip5.proofs.permutation.permuted.Given as goal

abbrev pub invariant-loop-round : goal.invariant-loop-round
invariant-loop-round l = l.state ≡ rounds l.round l.fn.state
