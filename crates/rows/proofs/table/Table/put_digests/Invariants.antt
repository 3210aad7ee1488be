-- `Table::put_digests`: the digests that were put are the first rows'.
-- Assumes nothing.
use mathlib.Core.Path.{◌≡◌}
use Prim.Native.Nat.{◌*◌}
use lib.ListN.{take}
use Rattle.rows.specs.Table.{digests_in}
use Rattle.rows.proofs.table.Table.put_digests.Given as goal

abbrev pub invariant-loop-row : goal.invariant-loop-row
invariant-loop-row l = take (l.row * 5) l.digests ≡ digests_in l.self l.row
