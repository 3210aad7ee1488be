-- `layers::mds_generated` meets its contract.
-- Assumes nothing.
use Prim.Native.Nat.{◌+◌, ◌*◌, ◌/◌, ◌^◌}
use lib.ListN.{get_or}
use Rattle.numbers.specs.Fill.{Filled}
use Rattle.tip5.specs.Reduced.{reduced}
use Rattle.tip5.proofs.layers.mds_generated.Given as goal

abbrev pub invariant-loop-i : goal.invariant-loop-i
invariant-loop-i l = Filled 16 (λ k. reduced (get_or l.lo k 0 / 16 + get_or l.hi k 0 * 2 ^ 28)) l.i l.out
