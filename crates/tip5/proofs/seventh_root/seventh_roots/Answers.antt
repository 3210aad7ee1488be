-- `seventh_root::seventh_roots` meets its contract.
-- Assumes nothing.
use mathlib.Core.Path.{ap, ◌∙◌}
use Rattle.tip5.specs.Powers.{powers}
use Rattle.tip5.proofs.PowersLaws.{powers-powers}
use Rattle.tip5.proofs.seventh_root.seventh_roots.Goals as goal

pub returns : goal.returns
returns c =
    c.to_thirty_three_ones.ensures
    ∙ ap (powers 8589934591) c.to_eleven_octal_ones.ensures
    ∙ powers-powers c.args.a 1227133513 8589934591
