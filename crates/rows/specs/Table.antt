-- What the methods of a table that was judged speak of: its columns, their entries, its rows and their digests.
use Rattle.std.specs.Prelude.{List, ℕ}
use Rattle.sponge.specs.Digest.{digest_of}
use Rattle.rows.specs.declared.table.Table.{Table}
use Rattle.rows.specs.Rows.{column_of, entry_of, joined, row}

-- column c
abbrev pub column_in : Table → (c : ℕ) → List ℕ
column_in table c = column_of table.words.now table.rows table.width c

-- its entry r
abbrev pub entry_in : Table → (c r : ℕ) → List ℕ
entry_in table c r = entry_of (column_in table c) table.width r

-- row r
abbrev pub row_in : Table → (r : ℕ) → List ℕ
row_in table r = row table.words.now table.columns table.rows table.width r

-- the digests of the first n rows
abbrev pub digests_in : Table → (n : ℕ) → List ℕ
digests_in table n = joined n (λ r. digest_of (row_in table r))
