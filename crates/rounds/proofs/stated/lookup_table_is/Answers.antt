-- `stated::lookup_table_is` meets its contract: the table is the cube rule at every byte, by computation.
-- Assumes nothing.
use mathlib.Core.Path.{refl}
use Rattle.rounds.specs.Round.{lookup_byte}
use Rattle.rounds.specs.Tables.{lookup_table}
use Rattle.rounds.proofs.stated.lookup_table_is.Goals as goal

pub returns : goal.returns
unfolding lookup_table lookup_byte
returns c = refl
