-- `tables::lookup` meets its contract: the code's table is the cube rule at every byte, by computation.
-- Assumes nothing.
use mathlib.Core.Path.{refl, ap, ◌∙◌}
use native.Mathlib.Omega.{arith}
use Rattle.rounds.specs.Round.{lookup_byte}
use Rattle.tip5.proofs.TableLaws.{entry-read}
use Rattle.tip5.proofs.tables.lookup.Goals as goal

pub returns : goal.returns
unfolding lookup_byte
returns c = entry-read 256 lookup_byte refl c.from.result (omega arith) ∙ ap lookup_byte c.from.ensures
