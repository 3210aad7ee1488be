-- `in_place::sample_indices`: a draw in progress at each turn.
-- Assumes nothing.
use Prim.Native.Nat.{◌-◌}
use Rattle.draws.proofs.DrawingLaws.{Drawing}
use Rattle.draws.proofs.in_place.sample_indices.Given as goal

abbrev pub invariant-loop-found : goal.invariant-loop-found
invariant-loop-found l = Drawing l.bound l.allowance l.initial.sponge l.initial.indices l.indices l.found l.squeezes l.sponge

abbrev pub decreases-loop-found : goal.decreases-loop-found
decreases-loop-found l = l.allowance - l.squeezes
