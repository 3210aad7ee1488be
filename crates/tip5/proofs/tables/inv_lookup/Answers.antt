-- `tables::inv_lookup` meets its contract: the code's table is the rule of the way back at every byte, by computation.
-- Assumes nothing.
use mathlib.Core.Path.{refl, ap, ◌∙◌}
use native.Mathlib.Omega.{arith}
use Rattle.rounds.specs.Inverse.{inv_lookup_byte}
use Rattle.tip5.proofs.TableLaws.{entry-read}
use Rattle.tip5.proofs.tables.inv_lookup.Goals as goal

pub returns : goal.returns
unfolding inv_lookup_byte
returns c = entry-read 256 inv_lookup_byte refl c.from.result (omega arith) ∙ ap inv_lookup_byte c.from.ensures
