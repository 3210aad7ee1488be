-- `index::put_indices`: what the words so far draw is put.
-- Assumes nothing.
use mathlib.Core.Path.{◌≡◌}
use lib.ListN.{take}
use Rattle.draws.specs.Draw.{from_words}
use Rattle.draws.specs.Filled.{filled}
use Rattle.draws.proofs.index.put_indices.Given as goal

abbrev pub invariant-loop-word : goal.invariant-loop-word
invariant-loop-word l = (l.put, l.free) ≡ filled (from_words l.bound (take l.word-index l.words)) l.initial.free
