-- `Tip5::pad_and_absorb_all`: what is left of the input at each turn.
-- Assumes nothing.
use mathlib.Core.Path.{◌≡◌}
use Rattle.sponge.proofs.TensLaws.{Left}
use Rattle.sponge.proofs.Tip5.pad_and_absorb_all.Given as goal

abbrev pub invariant-loop-ten : goal.invariant-loop-ten
invariant-loop-ten l = (l.ten-iterator.size ≡ 10) × Left l.input l.initial.self l.ten-iterator.rest.now l.self
