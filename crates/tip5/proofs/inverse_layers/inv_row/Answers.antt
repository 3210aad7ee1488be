-- `inverse_layers::inv_row` meets its contract.
-- Assumes nothing.
use mathlib.Core.Path.{◌≡◌, ap, subst⁻¹, ◌∙◌}
use Prim.Native.Nat.{ℕ, ◌*◌, ◌<◌}
use native.Mathlib.Nat.{zero-add}
use native.Mathlib.Omega.{arith}
use Rattle.std.proofs.lemmas.Grind.{common_steps}
use lib.Dec.{lit<}
use lib.ListN.{get_or}
use Rattle.numbers.specs.Circulant.{entry, row_sum}
use Rattle.numbers.specs.Modulus.{P}
use Rattle.numbers.proofs.Congruence.{cong-eq, cong-trans}
use Rattle.rounds.specs.Constants.{inv_mds_column}
use Rattle.rounds.specs.Field.{mul}
use Rattle.rounds.proofs.FieldLaws.{add-below}
use Rattle.tip5.proofs.RowLaws.{mul-raw_of, row-turn}
use Rattle.tip5.proofs.inverse_layers.inv_row.Goals as goal

pub loop-c-init : goal.loop-c-init
unfolding row_sum
loop-c-init c = (lit< tt, cong-eq (zero-add _))

pub loop-c-preserved : goal.loop-c-preserved
loop-c-preserved c =
    let l = c.loop-c in
    let w = get_or c.args.words l.c 0 in
    let m = entry inv_mds_column c.args.r l.c in
    let read : c.mul.result ≡ mul c.inv_entry.result w = grind (arith, common_steps) in
    let product = cong-trans (cong-eq (read ∙ ap (λ (n : ℕ). mul n w) c.inv_entry.ensures)) (mul-raw_of m w) in
    (subst⁻¹ (λ (n : ℕ). n < P) c.add-sum.ensures (add-below _ _), row-turn 16 l.c (λ c'. entry inv_mds_column c.args.r c' * get_or c.args.words c' 0) l.sum l.invariant.1 c.loop-c-test.true product c.add-sum.ensures)
