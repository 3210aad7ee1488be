-- `layers::sbox_layer` meets its contract.
-- Assumes nothing.
use lib.ListN.{get_or}
use Rattle.numbers.specs.Fill.{Filled}
use Rattle.rounds.specs.Round.{sbox}
use Rattle.tip5.proofs.layers.sbox_layer.Given as goal

abbrev pub invariant-loop-i : goal.invariant-loop-i
invariant-loop-i l = Filled 16 (λ k. sbox k (get_or l.s k 0)) l.i l.out

abbrev pub invariant-loop-i-2 : goal.invariant-loop-i-2
invariant-loop-i-2 l = Filled 16 (λ k. sbox k (get_or l.s k 0)) l.i l.out
