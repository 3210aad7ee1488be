-- Squeezes that are not refused: what one does, and that any number of them can follow.
-- Assumes nothing.
use mathlib.Core.List.{List}
use mathlib.Core.Path.{◌≡◌, ap, ◌∙◌}
use Prim.Native.Nat.{ℕ, zero, suc}
use lib.ListN.{replicate}
use Rattle.std.specs.Prelude.{Result, Ok}
use Rattle.rounds.specs.Field.{Below}
use Rattle.refusals.specs.declared.refusal.Refusal.{Refusal}
use Rattle.refusals.specs.Judge.{Judgement, granted, none}
use Rattle.refusals.proofs.JudgeLaws.{below_accepted}
use Rattle.sponge.specs.declared.Tip5.{Tip5}
use Rattle.sponge.specs.Answers.{squeeze, squeeze_refusal}
use Rattle.sponge.specs.History.{Step, after}
use Rattle.sponge.specs.InPlace.{leaving_ten}
use Rattle.sponge.specs.Sponge.{rate, squeezed}
use Rattle.sponge.specs.WalkBack.{Accepted}
use Rattle.sponge.proofs.SpongeLaws.{rate-below, squeezed-below}

-- what one answers and leaves in place
pub squeeze-made : (s : Tip5) {r : Result (List ℕ) Refusal} {next : Tip5} → Below s.state → (r, next) ≡ leaving_ten (squeeze s) s → (r ≡ Ok (rate s)) × (next ≡ squeezed s)
squeeze-made s {r} {next} h e =
    let made : (r, next) ≡ (Ok (rate s), squeezed s) =
    e ∙ ap (λ (j : Judgement). leaving_ten (granted j (squeezed s, rate s)) s) (below_accepted s.state h) in
    (ap (λ (p : Result (List ℕ) Refusal × Tip5). p.0) made, ap (λ (p : Result (List ℕ) Refusal × Tip5). p.1) made)

-- its ten words are below P
pub ten_below : (s : Tip5) → Below s.state → Below (rate s)
ten_below s h = rate-below s h

-- any number of squeezes is accepted where one is
pub squeezes-accepted : (n : ℕ) (s : Tip5) → squeeze_refusal s ≡ none → Accepted (replicate n Step.squeeze) s
unfolding after
squeezes-accepted zero s accepted = tt
squeezes-accepted (suc n) s accepted = (accepted, squeezes-accepted n (squeezed s) (below_accepted (squeezed s).state (squeezed-below s)))
