-- Walking back over a history: what is kept of it, and the calls that return its earlier sponges.
use Rattle.std.specs.Prelude.{List, [], ◌∷◌, ◌≡◌, ℕ, length, Result, Ok, Err}
use Rattle.refusals.specs.declared.refusal.Refusal.{Refusal}
use Rattle.refusals.specs.Judge.{Judgement, none}
use Rattle.sponge.specs.declared.step_back.StepKind.{StepKind}
use Rattle.sponge.specs.declared.step_back.StepKind.TheVariants.{Squeeze, Absorb}
use Rattle.sponge.specs.declared.Tip5.{Tip5}
use Rattle.sponge.specs.Answers.{absorb_refusal, squeeze_refusal, step_back}
use Rattle.sponge.specs.History.{Step, after}
use Rattle.sponge.specs.History.Step.{squeeze, absorb}
use Rattle.sponge.specs.Sponge.{rate}

-- the refusal of the call that makes a step
abbrev pub step_refusal : Step → Tip5 → Judgement
step_refusal squeeze s = squeeze_refusal s
step_refusal (absorb ten) s = absorb_refusal s ten

-- a history from the sponge s on: no step of it is refused where it is made
abbrev pub Accepted : List Step → Tip5 → Type 0
Accepted [] s = Unit
Accepted (t ∷ ts) s = (step_refusal t s ≡ none) × Accepted ts (after t s)

-- what is kept of a step: its kind and ten words
pub record Kept : Type 0 where
  pub kind : StepKind
  pub ten : List ℕ

-- of an absorb at s they are the ten that it overwrote, of a squeeze any ten
abbrev pub Keeps : Step → Tip5 → Kept → Type 0
Keeps squeeze s k = (k.kind ≡ Squeeze) × (length k.ten ≡ 10)
Keeps (absorb ten) s k = (k.kind ≡ Absorb) × (k.ten ≡ rate s)

-- the same of every step of a history, in its order
abbrev pub AllKept : List Step → Tip5 → List Kept → Type 0
AllKept [] s [] = Unit
AllKept [] s (k ∷ ks) = ⊥
AllKept (t ∷ ts) s [] = ⊥
AllKept (t ∷ ts) s (k ∷ ks) = Keeps t s k × AllKept ts (after t s) ks

-- what comes of an answer that may be a refusal
abbrev pub and_then : Result Tip5 Refusal → (Tip5 → Result Tip5 Refusal) → Result Tip5 Refusal
and_then (Ok s) next = next s
and_then (Err refusal) next = Err refusal

-- calls of `step_back` in the list's order, each on the sponge that the one before answered, up to a refusal
abbrev pub walk : List Kept → Tip5 → Result Tip5 Refusal
walk [] s = Ok s
walk (k ∷ ks) s = and_then (step_back k.kind s k.ten) (walk ks)
