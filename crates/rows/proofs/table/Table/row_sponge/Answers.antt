-- `Table::row_sponge` meets its contract.
-- Assumes nothing.
use mathlib.Core.Path.{refl, ap, subst⁻¹, ◌∙◌}
use Prim.Native.Nat.{ℕ}
use native.Mathlib.Omega.{arith}
use lib.ListN.{length-take}
use Rattle.std.proofs.Common.{IsOk}
use Rattle.refusals.specs.Judge.{Judgement}
use Rattle.sponge.specs.declared.Tip5.{Tip5}
use Rattle.rows.proofs.RowLaws.{none-yet, rest-absorbed}
use Rattle.rows.proofs.table.Table.row_sponge.Goals as goal

pub loop-n-init : goal.loop-n-init
loop-n-init c = none-yet c.args.self.now c.args.row c.init-sponge.ensures

pub unwrap-requires-2 : goal.unwrap-requires-2
unwrap-requires-2 c =
    let l = c.loop-n in
    let all = rest-absorbed _ _ _ _ l.invariant _ _ c.requires (omega (arith, length-take {A = ℕ})) (omega (arith, length-take {A = ℕ})) c.put_words-2.ensures in
    subst⁻¹ IsOk (ap (λ (x : Judgement × Tip5). x.0) (c.pad_and_absorb_all.ensures ∙ all)) refl

pub returns : goal.returns
returns c =
    let l = c.loop-n in
    let all = rest-absorbed _ _ _ _ l.invariant _ _ c.requires (omega (arith, length-take {A = ℕ})) (omega (arith, length-take {A = ℕ})) c.put_words-2.ensures in
    ap (λ (x : Judgement × Tip5). x.1) (c.pad_and_absorb_all.ensures ∙ all)
