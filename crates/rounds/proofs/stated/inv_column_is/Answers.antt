-- `stated::inv_column_is` meets its contract: the column is the raw word of every entry of the inverse column, by computation.
-- Assumes nothing.
use mathlib.Core.Path.{refl}
use Rattle.rounds.specs.Constants.{inv_mds_column}
use Rattle.rounds.specs.Field.{raw_of}
use Rattle.rounds.specs.InverseTables.{raw_inv_column}
use Rattle.rounds.proofs.stated.inv_column_is.Goals as goal

pub returns : goal.returns
unfolding raw_inv_column raw_of inv_mds_column
returns c = refl
