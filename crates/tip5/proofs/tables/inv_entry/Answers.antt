-- `tables::inv_entry` meets its contract: the code's column is the raw word of every entry of the inverse column, by computation.
-- Assumes nothing.
use mathlib.Core.Path.{refl}
use Prim.Native.Nat.{ℕ}
use lib.ListN.{get_or}
use Rattle.rounds.specs.Constants.{inv_mds_column}
use Rattle.rounds.specs.Field.{raw_of}
use Rattle.tip5.proofs.TableLaws.{entry-read}
use Rattle.tip5.proofs.tables.inv_entry.Goals as goal

pub returns : goal.returns
unfolding raw_of inv_mds_column
returns c = entry-read 16 (λ (j : ℕ). raw_of (get_or inv_mds_column j 0)) refl c.args.k c.requires
