-- `element::judged` meets its contract.
-- Assumes nothing.
use mathlib.Core.Path.{◌≡◌, ◌∙◌}
use native.Mathlib.Omega.{arith}
use borrow.Author.Rules.{rules}
use lib.ListN.{length}
use Rattle.numbers.proofs.Fill.{filled-all}
use Rattle.numbers.proofs.Lists.{tab-get_or}
use Rattle.refusals.specs.Judge.{granted}
use Rattle.tip5.proofs.element.judged.Goals as goal

pub returns : goal.returns
returns c =
    let sixteen : length c.args.words ≡ 16 = search rules in
    let same = filled-all c.loop-i.invariant (omega arith) ∙ tab-get_or c.args.words sixteen in
    λ i. granted (c.in_ok-judge_words.ensures.value i) (same i)
