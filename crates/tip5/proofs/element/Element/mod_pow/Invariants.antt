-- `Element::mod_pow` meets its contract. The loop's invariant: found times square to the power of what is left is, modulo P,
-- the power that is wanted. The measure is what is left of the exponent.
-- Assumes nothing.
use Prim.Native.Nat.{◌*◌, ◌^◌, ◌<◌}
use Rattle.numbers.specs.Congruence.{Cong}
use Rattle.numbers.specs.Modulus.{P}
use Rattle.rounds.specs.Field.{value_of}
use Rattle.tip5.proofs.element.Element.mod_pow.Given as goal

abbrev pub invariant-loop-left : goal.invariant-loop-left
invariant-loop-left l = (l.found < P) × Cong P (value_of l.found * value_of l.square ^ l.left) (value_of l.fn.self ^ l.exponent)

abbrev pub decreases-loop-left : goal.decreases-loop-left
decreases-loop-left l = l.left
