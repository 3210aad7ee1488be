-- `stated::round_constants_are` meets its contract: the table is the raw word of every round constant, by computation.
-- Assumes nothing.
use mathlib.Core.Path.{refl}
use Rattle.rounds.specs.Constants.{round_constants}
use Rattle.rounds.specs.Field.{raw_of}
use Rattle.rounds.specs.Tables.{raw_constants}
use Rattle.rounds.proofs.stated.round_constants_are.Goals as goal

pub returns : goal.returns
unfolding raw_constants raw_of round_constants
returns c = refl
