-- `seventh_root::to_thirty_three_ones` meets its contract.
-- Assumes nothing.
use mathlib.Core.Path.{◌∙◌}
use Rattle.tip5.proofs.PowersLaws.{powers-accumulated, raised-one, raised-powers}
use Rattle.tip5.proofs.seventh_root.to_thirty_three_ones.Goals as goal

pub returns : goal.returns
returns c =
    let a = c.args.a in
    let one = raised-one a in
    let two = raised-powers 3 a (c.power_accumulator-two.ensures ∙ powers-accumulated a 1 1 1 one one) in
    let four = raised-powers 15 a (c.power_accumulator-four.ensures ∙ powers-accumulated a 3 3 2 two two) in
    let eight = raised-powers 255 a (c.power_accumulator-eight.ensures ∙ powers-accumulated a 15 15 4 four four) in
    let sixteen = raised-powers 65535 a (c.power_accumulator-sixteen.ensures ∙ powers-accumulated a 255 255 8 eight eight) in
    let all-but-one = raised-powers 4294967295 a (c.power_accumulator-all_but_one.ensures ∙ powers-accumulated a 65535 65535 16 sixteen sixteen) in
    c.power_accumulator.ensures ∙ powers-accumulated a 4294967295 1 1 all-but-one one
