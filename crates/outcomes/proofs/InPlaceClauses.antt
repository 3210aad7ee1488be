-- No second outcome of the sponge and the draw in place, by the clauses of their contracts: the answer and all that was lent together.
-- Assumes nothing.
use mathlib.Core.Path.{◌≡◌}
use base.Logic.{SProp}
use contract.Monad.{Fun}
use types.Logic.{Logic}
use seplogic.Ra.Ura.{Ura}
use prog.Memory.{Memory}
use prog.Routine.{Routine}
use Rattle.sponge.specs.contracts.Tip5.absorb as absorb
use Rattle.sponge.specs.contracts.Tip5.pad_and_absorb_all as pad-and-absorb-all
use Rattle.sponge.specs.contracts.Tip5.step_back as step-back
use Rattle.sponge.specs.contracts.Tip5.squeeze as squeeze
use Rattle.draws.specs.contracts.in_place.sample_indices as sample-indices
use Rattle.outcomes.specs.Outcome.{OneOutcome}
use Rattle.outcomes.proofs.Same.{both, both-of-two, one, other, same}

module _ {M : Type 1} {𝓤 : Ura M} (𝓛 : Logic 𝓤) (mem : Memory → SProp 𝓤) (run : Routine → Fun 𝓤) where
  pub absorb-clauses-once : OneOutcome 𝓤 absorb.ended (absorb.clauses 𝓛 mem run) λ κs x y e f. (x ≡ y) × (e.0.now ≡ f.0.now)
  absorb-clauses-once κs a g x y e f = both 𝓤 λ h k. (one (same h k), other (same h k))

  pub pad-and-absorb-all-clauses-once : OneOutcome 𝓤 pad-and-absorb-all.ended (pad-and-absorb-all.clauses 𝓛 mem run) λ κs x y e f. (x ≡ y) × (e.0.now ≡ f.0.now)
  pad-and-absorb-all-clauses-once κs a g x y e f = both 𝓤 λ h k. (one (same h k), other (same h k))

  pub step-back-clauses-once : OneOutcome 𝓤 step-back.ended (step-back.clauses 𝓛 mem run) λ κs x y e f. (x ≡ y) × (e.0.now ≡ f.0.now)
  step-back-clauses-once κs a g x y e f = both 𝓤 λ h k. (one (same h k), other (same h k))

  pub squeeze-clauses-once : OneOutcome 𝓤 squeeze.ended (squeeze.clauses 𝓛 mem run) λ κs x y e f. (x ≡ y) × (e.0.now ≡ f.0.now)
  squeeze-clauses-once κs a g x y e f = both 𝓤 λ h k. (one (same h k), other (same h k))

  pub sample-indices-clauses-once : OneOutcome 𝓤 sample-indices.ended (sample-indices.clauses 𝓛 mem run)
      λ κs x y e f. (x ≡ y) × (e.0.now ≡ f.0.now) × (e.1.1.0.now ≡ f.1.1.0.now)
  sample-indices-clauses-once κs a g x y e f = both-of-two 𝓤 λ h k. (one (same h.0 k.0), other (same h.0 k.0), same h.1 k.1)
