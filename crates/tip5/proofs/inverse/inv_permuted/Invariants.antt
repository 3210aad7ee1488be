-- `inverse::inv_permuted` meets its contract.
-- Assumes nothing.
use mathlib.Core.Path.{◌≡◌}
use Rattle.rounds.specs.Inverse.{inv_rounds}
use Rattle.tip5.proofs.inverse.inv_permuted.Given as goal

abbrev pub invariant-loop-round : goal.invariant-loop-round
invariant-loop-round l = inv_rounds l.round l.state ≡ inv_rounds 5 l.fn.state
