-- `Tip5::pad_and_absorb_all` meets its contract.
-- Assumes nothing.
use mathlib.Core.List.{List}
use mathlib.Core.Path.{ap, ap₂, subst, subst⁻¹, ◌∙◌}
use Prim.Native.Nat.{ℕ, ◌<◌}
use lib.ListN.{length}
use Rattle.rounds.specs.Field.{Below}
use Rattle.refusals.specs.Judge.{Judgement, granted}
use Rattle.sponge.specs.declared.Tip5.{Tip5}
use Rattle.sponge.specs.History.{padded_steps, run}
use Rattle.sponge.specs.InPlace.{leaving}
use Rattle.sponge.specs.Padding.{last_ten}
use Rattle.sponge.specs.Sponge.{absorbed}
use Rattle.sponge.proofs.TensLaws.{absorbs, ends, goes_on, last_below, ten_below}
use Rattle.sponge.proofs.Tip5.pad_and_absorb_all.Goals as goal

pub loop-ten-preserved : goal.loop-ten-preserved
loop-ten-preserved c =
    let step = c.in-Some.ensures.steps in
    let before = c.loop-ten.invariant in
    let long = step.1.1 ∙ before.0 in
    let below = ten_below _ _ c.in-Some.ten.now _ _ _ before.1 step.1.0 long in
    (step.0 ∙ before.0, goes_on _ _ c.in-Some.ten.now _ _ _ _ before.1 step.1.0 long (absorbs c.in-Some.ten.now c.loop-ten.self c.permute.ensures c.overwrite.ensures before.1.judged below).1)

pub returns : goal.returns
returns c =
    let now = c.loop-ten.invariant in
    let last = c.last_ten.ensures ∙ ap last_ten (c.remainder-rest.ensures ∙ c.chunks_exact-tens.ensures.remainder) in
    let done = absorbs c.last_ten.result c.loop-ten.self c.permute-2.ensures c.overwrite-2.ensures now.1.judged (subst⁻¹ Below last (last_below now.1)) in
    ap₂ (λ (j : Judgement) (t : Tip5). (j, t)) done.0 (ends _ _ _ _ _ now.1 (subst (λ (n : ℕ). length c.loop-ten.ten-iterator.rest.now < n) now.0 c.in-None.ensures.steps.1.0)
    (done.1 ∙ ap (λ (ten : List ℕ). absorbed ten c.loop-ten.self) last))
    ∙ ap (λ (j : Judgement). leaving (granted j (run (padded_steps c.args.input.now) c.args.self.now)) c.args.self.now) c.in_ok-judge_input.ensures.value
