-- `judge::Sheet::judge_values` meets its contract. The invariant: the values passed are all below P, so what is left decides.
-- Assumes nothing.
use mathlib.Core.Path.{◌≡◌}
use Prim.Native.Nat.{◌-◌}
use Rattle.numbers.specs.Lists.{tab}
use Rattle.refusals.specs.Judge.{word_refusal}
use Rattle.sheet.specs.Sheet.{header_of, value, value_refusal}
use Rattle.sheet.proofs.judge.Sheet.judge_values.Given as goal

abbrev pub invariant-loop-i : goal.invariant-loop-i
invariant-loop-i l = value_refusal (header_of l.self).elements l.self ≡ word_refusal (tab (l.i-end - l.i) l.i (value l.self))
