-- `element::judged` meets its contract.
-- Assumes nothing.
use lib.ListN.{get_or}
use Rattle.numbers.specs.Fill.{Filled}
use Rattle.tip5.proofs.element.judged.Given as goal

abbrev pub invariant-loop-i : goal.invariant-loop-i
invariant-loop-i l = Filled 16 (λ k. get_or l.words k 0) l.i l.state
