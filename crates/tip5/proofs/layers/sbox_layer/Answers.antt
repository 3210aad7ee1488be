-- `layers::sbox_layer` meets its contract.
-- Assumes nothing.
use mathlib.Core.Path.{◌≡◌, sym, ◌∙◌}
use native.Mathlib.Omega.{arith}
use Rattle.std.proofs.lemmas.Grind.{common_steps}
use lib.ListN.{get_or}
use Rattle.numbers.proofs.Fill.{filled-all, filled-more}
use Rattle.rounds.specs.Field.{power}
use Rattle.rounds.specs.Round.{lookup, sbox_layer}
use Rattle.tip5.proofs.SboxLaws.{sbox-lookup, sbox-power}
use Rattle.tip5.proofs.layers.sbox_layer.Goals as goal

pub loop-i-preserved : goal.loop-i-preserved
loop-i-preserved c =
    let l = c.loop-i in
    let e : c.split_and_lookup.result ≡ lookup (get_or c.args.s l.i 0) = grind (arith, common_steps) in
    filled-more l.invariant (omega arith) (e ∙ sym (sbox-lookup _ c.loop-i-test.true))

pub loop-i-2-preserved : goal.loop-i-2-preserved
loop-i-2-preserved c =
    let l = c.loop-i-2 in
    let e : c.seventh_power.result ≡ power (get_or c.args.s l.i 0) 7 = grind (arith, common_steps) in
    filled-more l.invariant c.loop-i-2-test.true (e ∙ sym (sbox-power _ l.auto.i))

pub returns : goal.returns
unfolding sbox_layer
returns c = filled-all c.loop-i-2.invariant (omega arith)
