-- `stated::inv_lookup_table_is` meets its contract: the table is the rule of the way back at every byte, by computation.
-- Assumes nothing.
use mathlib.Core.Path.{refl}
use Rattle.rounds.specs.Inverse.{inv_lookup_byte}
use Rattle.rounds.specs.InverseTables.{inv_lookup_table}
use Rattle.rounds.proofs.stated.inv_lookup_table_is.Goals as goal

pub returns : goal.returns
unfolding inv_lookup_table inv_lookup_byte
returns c = refl
