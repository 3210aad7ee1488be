-- `seventh_root::to_eleven_octal_ones` meets its contract.
-- Assumes nothing.
use mathlib.Core.Path.{◌∙◌}
use Rattle.tip5.proofs.PowersLaws.{powers-accumulated, raised-one, raised-powers}
use Rattle.tip5.proofs.seventh_root.to_eleven_octal_ones.Goals as goal

pub returns : goal.returns
returns c =
    let a = c.args.a in
    let one = raised-one a in
    let two = raised-powers 9 a (c.power_accumulator-two.ensures ∙ powers-accumulated a 1 1 3 one one) in
    let four = raised-powers 585 a (c.power_accumulator-four.ensures ∙ powers-accumulated a 9 9 6 two two) in
    let five = raised-powers 4681 a (c.power_accumulator-five.ensures ∙ powers-accumulated a 585 1 3 four one) in
    let ten = raised-powers 153391689 a (c.power_accumulator-ten.ensures ∙ powers-accumulated a 4681 4681 15 five five) in
    c.power_accumulator.ensures ∙ powers-accumulated a 153391689 1 3 ten one
