-- `Table::put_words`: the words that were put are the row's.
-- Assumes nothing.
use mathlib.Core.Path.{◌≡◌}
use lib.ListN.{drop, take}
use Rattle.rows.specs.Table.{row_in}
use Rattle.rows.proofs.table.Table.put_words.Given as goal

abbrev pub invariant-loop-i : goal.invariant-loop-i
invariant-loop-i l = take l.i l.room ≡ take l.i (drop l.at (row_in l.self l.row))
