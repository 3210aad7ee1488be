-- `inverse_layers::inv_row` meets its contract.
-- Assumes nothing.
use Prim.Native.Nat.{◌+◌, ◌-◌, ◌*◌, ◌<◌}
use lib.ListN.{get_or}
use Rattle.numbers.specs.Circulant.{entry, row_sum}
use Rattle.numbers.specs.Congruence.{Cong}
use Rattle.numbers.specs.Lists.{total}
use Rattle.numbers.specs.Modulus.{P}
use Rattle.rounds.specs.Constants.{inv_mds_column}
use Rattle.tip5.proofs.inverse_layers.inv_row.Given as goal

abbrev pub invariant-loop-c : goal.invariant-loop-c
invariant-loop-c l =
    (l.sum < P) × Cong P (l.sum + total (16 - l.c) l.c (λ c. entry inv_mds_column l.r c * get_or l.words c 0)) (row_sum inv_mds_column l.words l.r)
