-- `trace::trace`: the states so far are those after no round, one round and so on.
-- Assumes nothing.
use Rattle.states.proofs.TraceLaws.{Entered}
use Rattle.states.proofs.trace.trace.Given as goal

abbrev pub invariant-loop-i : goal.invariant-loop-i
invariant-loop-i l = Entered l.fn.state l.i l.states
