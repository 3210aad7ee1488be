-- `Table::row_sponge`: how much of the row was absorbed at each turn.
-- Assumes nothing.
use Prim.Native.Nat.{◌*◌}
use Rattle.rows.proofs.RowLaws.{Absorbed}
use Rattle.rows.proofs.table.Table.row_sponge.Given as goal

abbrev pub invariant-loop-n : goal.invariant-loop-n
invariant-loop-n l = Absorbed l.self l.row (l.n * 10) l.sponge
