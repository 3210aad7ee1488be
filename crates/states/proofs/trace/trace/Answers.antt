-- `trace::trace`: each round is granted, and brings one state more.
-- Assumes nothing.
use Rattle.std.proofs.Common.{rules}
use Rattle.states.proofs.TraceLaws.{entered-none, entered-more, next-granted}
use Rattle.states.proofs.trace.trace.Goals as goal

pub loop-i-init : goal.loop-i-init
loop-i-init c = search entered-none

pub returns-in_err-states : goal.returns-in_err-states
returns-in_err-states c =
    let granted = next-granted c.loop-i.invariant (search rules) c.loop-i-test.true in
    absurd (search rules)

pub loop-i-preserved : goal.loop-i-preserved
loop-i-preserved c =
    let granted = next-granted c.loop-i.invariant (search rules) c.loop-i-test.true in
    let more = entered-more c.loop-i.invariant c.loop-i-test.true in
    search rules
