-- `layers::add_constants` meets its contract.
-- Assumes nothing.
use mathlib.Core.Path.{subst⁻¹, ◌∙◌}
use Prim.Native.Nat.{ℕ, ◌≤◌}
use native.Mathlib.Omega.{arith}
use borrow.Author.Rules.{rules}
use lib.ListN.{get_or}
use mir.Syntax.{w64}
use mir.Val.{Fits}
use Rattle.numbers.proofs.Fill.{filled-all}
use Rattle.rounds.specs.Round.{add_constants}
use Rattle.rounds.proofs.ConstantLaws.{constant-bound, largest_mended}
use Rattle.tip5.proofs.ReducedLaws.{mended}
use Rattle.tip5.proofs.layers.add_constants.Goals as goal

pub sum-requires : goal.sum-requires
sum-requires c =
    let w : Fits w64 (get_or c.args.words c.loop-r.r 0) = search rules in
    mended w.fits
    (subst⁻¹ (λ (n : ℕ). n ≤ largest_mended) (c.sum.view_is ∙ c.constant.ensures) (constant-bound c.requires c.loop-r-test.true))

pub returns : goal.returns
unfolding add_constants
returns c = filled-all c.loop-r.invariant (omega arith)
