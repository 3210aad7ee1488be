-- `in_place::sample_indices` meets its contract.
-- Assumes nothing.
use mathlib.Core.Path.{ap, sym, ◌∙◌}
use Prim.Native.Nat.{ℕ}
use native.Mathlib.Omega.{arith}
use lib.ListN.{length}
use Rattle.draws.specs.Answers.{sample_indices, sampled_slice}
use Rattle.draws.specs.Bound.{bound_refusal}
use Rattle.draws.proofs.BoundLaws.{granted_bound}
use Rattle.draws.proofs.DrawingLaws.{drawing_full, drawing_starts, drawing_turn}
use Rattle.draws.proofs.in_place.sample_indices.Goals as goal

pub loop-found-init : goal.loop-found-init
loop-found-init c =
    let bound = granted_bound (bound_refusal c.args.bound) c.in_ok-bound.ensures in
    drawing_starts _ _ _ _ c.in_ok-judge_words.ensures.value (bound.0 ∙ ap bound_refusal (sym bound.1)) c.in_ok-judge_words.ensures.below

pub loop-found-preserved : goal.loop-found-preserved
loop-found-preserved c =
    drawing_turn c.loop-found.invariant (omega arith) (omega arith) c.squeeze.ensures c.unwrap-ten.ensures c.put_indices-found.ensures

pub returns-clause-answer : goal.returns-clause-answer
returns-clause-answer c =
    (drawing_full c.loop-found.invariant c.loop-found-test.false).0
    ∙ ap (λ (b : ℕ). sample_indices c.args.sponge.now b c.args.allowance (length c.args.indices.now)) (granted_bound (bound_refusal c.args.bound) c.in_ok-bound.ensures).1

pub returns-clause-slice : goal.returns-clause-slice
returns-clause-slice c =
    (drawing_full c.loop-found.invariant c.loop-found-test.false).1
    ∙ ap (λ (b : ℕ). sampled_slice c.args.sponge.now b c.args.allowance c.args.indices.now) (granted_bound (bound_refusal c.args.bound) c.in_ok-bound.ensures).1
