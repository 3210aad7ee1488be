-- `layers::seventh_power` meets its contract.
-- Assumes nothing.
use mathlib.Core.Path.{◌≡◌}
use Rattle.numbers.proofs.Congruence.{cong-eq}
use Rattle.rounds.specs.Field.{power}
use Rattle.tip5.proofs.PowersLaws.{first-power, product-power}
use Rattle.tip5.proofs.layers.seventh_power.Goals as goal

pub returns : goal.returns
returns c =
    let a = c.args.a in
    let two : c.mul-sq.result ≡ power a 2 = product-power a 1 1 c.mul-sq.ensures (first-power a) (first-power a) in
    let three : c.mul.result ≡ power a 3 = product-power a 1 2 c.mul.ensures (first-power a) (cong-eq two) in
    let four : c.mul-qu.result ≡ power a 4 = product-power a 2 2 c.mul-qu.ensures (cong-eq two) (cong-eq two) in
    product-power a 3 4 c.mul-2.ensures (cong-eq three) (cong-eq four)
