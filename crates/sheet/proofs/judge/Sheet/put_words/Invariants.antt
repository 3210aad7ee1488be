-- `judge::Sheet::put_words` meets its contract. The invariant: the words passed stand in front.
-- Assumes nothing.
use mathlib.Core.List.{◌++◌}
use mathlib.Core.Path.{◌≡◌}
use lib.ListN.{drop}
use Rattle.sheet.specs.Sheet.{words_of}
use Rattle.sheet.proofs.judge.Sheet.put_words.Given as goal

abbrev pub invariant-loop-i : goal.invariant-loop-i
invariant-loop-i l = l.words ≡ words_of l.i l.self ++ drop l.i l.fn.words
