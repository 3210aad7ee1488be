-- Steps and lists of steps: sponges stay sixteen words below P, and a padded absorb is a list of accepted steps.
-- Assumes nothing.
use mathlib.Core.List.{List, [], ◌∷◌, map}
use mathlib.Core.Path.{◌≡◌, ap, ◌∙◌}
use Prim.Native.Nat.{ℕ, ◌+◌, ◌/◌, ◌≤◌, ◌<◌}
use lib.ListN.{drop, length, take, length-map}
use Rattle.rounds.specs.Field.{Below}
use Rattle.refusals.specs.Judge.{none}
use Rattle.sponge.specs.declared.Tip5.{Tip5}
use Rattle.sponge.specs.Answers.{pad_refusal}
use Rattle.sponge.specs.History.{Step, after, padded_steps, run}
use Rattle.sponge.specs.History.Step.{squeeze, absorb}
use Rattle.sponge.specs.Padding.{last_ten, padded}
use Rattle.sponge.specs.Sponge.{absorbed}
use Rattle.sponge.specs.WalkBack.{Accepted}
use Rattle.sponge.proofs.AcceptedLaws.{absorb-accepted, accepted-pad}
use Rattle.sponge.proofs.PaddingLaws.{Tens, padded-last, padded-length, padded-more, padded-tens}
use Rattle.sponge.proofs.SpongeLaws.{absorbed_below, absorbed-length, squeezed-below, squeezed-length}

-- Words

pub after-length : (t : Step) (s : Tip5) → length (after t s).state ≡ 16
unfolding after
after-length squeeze s = squeezed-length s
after-length (absorb ten) s = absorbed-length ten s

pub after-below : (t : Step) (s : Tip5) → Below (after t s).state
unfolding after
after-below squeeze s = squeezed-below s
after-below (absorb ten) s = absorbed_below ten s

pub run-length : (ts : List Step) (s : Tip5) → length s.state ≡ 16 → length (run ts s).state ≡ 16
unfolding run
run-length [] s e = e
run-length (t ∷ ts) s e = run-length ts (after t s) (after-length t s)

pub run-below : (ts : List Step) (s : Tip5) → Below s.state → Below (run ts s).state
unfolding run
run-below [] s h = h
run-below (t ∷ ts) s h = run-below ts (after t s) (after-below t s)

-- A padded absorb

pub padded_steps-length : (input : List ℕ) → length (padded_steps input) ≡ length input / 10 + 1
unfolding padded_steps
padded_steps-length input = length-map (padded input) absorb ∙ padded-length input

absorbs-accepted : (tens : List (List ℕ)) (s : Tip5) → Tens tens → Below s.state → Accepted (map absorb tens) s
absorbs-accepted [] s h hs = tt
absorbs-accepted (ten ∷ more) s h hs =
    (absorb-accepted s ten h.0 hs h.1, absorbs-accepted more (after (absorb ten) s) h.2 (after-below (absorb ten) s))

pub padded-accepted : (s : Tip5) (input : List ℕ) → pad_refusal s input ≡ none → Accepted (padded_steps input) s
unfolding padded_steps
padded-accepted s input e =
    let words = accepted-pad s input e in
    absorbs-accepted (padded input) s (padded-tens input words.1) words.0

-- ten words and more are an absorb and then the rest
pub run-padded-more : (ws : List ℕ) (s : Tip5) → 10 ≤ length ws → run (padded_steps ws) s ≡ run (padded_steps (drop 10 ws)) (absorbed (take 10 ws) s)
unfolding run padded_steps after
run-padded-more ws s h = ap (λ (tens : List (List ℕ)). run (map absorb tens) s) (padded-more ws h)

-- fewer are one absorb
pub run-padded-last : (ws : List ℕ) (s : Tip5) → length ws < 10 → run (padded_steps ws) s ≡ absorbed (last_ten ws) s
unfolding run padded_steps after
run-padded-last ws s h = ap (λ (tens : List (List ℕ)). run (map absorb tens) s) (padded-last ws h)
