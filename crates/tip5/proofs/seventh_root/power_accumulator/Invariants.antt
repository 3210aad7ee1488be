-- `seventh_root::power_accumulator` meets its contract.
-- Assumes nothing.
use Prim.Native.Nat.{◌^◌}
use Rattle.tip5.proofs.PowersLaws.{Raised}
use Rattle.tip5.proofs.seventh_root.power_accumulator.Given as goal

abbrev pub invariant-loop : goal.invariant-loop
invariant-loop l = Raised (2 ^ l.counter) l.fn.base l.square
