-- The walk back. A step back undoes an accepted step, given what is kept of it; so over any list of accepted steps the calls of
-- `step_back`, last step first, answer every earlier sponge word for word, and none is refused.
-- Assumes nothing.
use mathlib.Core.List.{List, [], ◌∷◌, reverse, reverse_aux}
use mathlib.Core.Path.{◌≡◌, refl, ap, ap₂, ◌∙◌}
use Prim.Native.Nat.{ℕ, zero, suc}
use lib.ListN.{drop, length, replicate, take}
use Rattle.std.specs.Prelude.{Result, Ok}
use Rattle.refusals.specs.declared.refusal.Refusal.{Refusal}
use Rattle.refusals.specs.Judge.{Judgement, granted, none}
use Rattle.refusals.proofs.JudgeLaws.{accepted_below}
use Rattle.sponge.specs.declared.step_back.StepKind.{StepKind}
use Rattle.sponge.specs.declared.step_back.StepKind.TheVariants.{Squeeze, Absorb}
use Rattle.sponge.specs.declared.Tip5.{Tip5}
use Rattle.sponge.specs.Answers.{pad_refusal, pad_and_absorb_all, squeeze_refusal, step_back, absorb_refusal}
use Rattle.sponge.specs.History.{Step, after, padded_steps, run}
use Rattle.sponge.specs.History.Step.{squeeze, absorb}
use Rattle.sponge.specs.Sponge.{absorbed, rate, squeezed}
use Rattle.sponge.specs.WalkBack.{Accepted, AllKept, Keeps, Kept, and_then, step_refusal, walk}
use Rattle.sponge.proofs.AcceptedLaws.{accepted-absorb, places-accepted, absorb-accepted}
use Rattle.sponge.proofs.HistoryLaws.{after-length, padded-accepted}
use Rattle.sponge.proofs.SpongeLaws.{absorbed_below, rate-below, rate-length, squeezed-below, unabsorbed-absorbed, unsqueezed-squeezed}

-- a call that is not refused makes its steps
pub granted-ok : {j : Judgement} {next s : Tip5} → j ≡ none → next ≡ s → granted j next ≡ Ok s
granted-ok e same = ap₂ (λ (j : Judgement) (t : Tip5). granted j t) e same

-- One step

pub back-squeeze : (s : Tip5) (places : List ℕ) → length s.state ≡ 16 → squeeze_refusal s ≡ none → length places ≡ 10
    → step_back Squeeze (squeezed s) places ≡ Ok s
back-squeeze s places e accepted ten =
    granted-ok
    (places-accepted (squeezed s) places ten (squeezed-below s))
    (unsqueezed-squeezed s e (accepted_below s.state accepted))

pub back-absorb : (s : Tip5) (ten : List ℕ) → length s.state ≡ 16 → absorb_refusal s ten ≡ none
    → step_back Absorb (absorbed ten s) (rate s) ≡ Ok s
back-absorb s ten e accepted =
    let words = accepted-absorb s ten accepted in
    granted-ok
    (absorb-accepted (absorbed ten s) (rate s) (rate-length s e) (absorbed_below ten s) (rate-below s words.1))
    (unabsorbed-absorbed ten s words.0 words.2 e words.1)

pub back-step : (t : Step) (s : Tip5) (k : Kept) → length s.state ≡ 16 → step_refusal t s ≡ none → Keeps t s k
    → step_back k.kind (after t s) k.ten ≡ Ok s
unfolding after
back-step squeeze s k e accepted kept =
    ap (λ (kind : StepKind). step_back kind (squeezed s) k.ten) kept.0 ∙ back-squeeze s k.ten e accepted kept.1
back-step (absorb ten) s k e accepted kept =
    ap₂ (λ (kind : StepKind) (saved : List ℕ). step_back kind (absorbed ten s) saved) kept.0 kept.1 ∙ back-absorb s ten e accepted

-- Any list of steps

-- a call that answers the sponge s leaves the other calls to be made on s
walk-on : (k : Kept) (ks : List Kept) {s : Tip5} (t : Tip5) → step_back k.kind t k.ten ≡ Ok s → walk (k ∷ ks) t ≡ walk ks s
walk-on k ks t e = ap (λ (a : Result Tip5 Refusal). and_then a (walk ks)) e

-- what is kept of the steps, last step first, and then any other calls
walk-steps : (ts : List Step) (s : Tip5) (ks more : List Kept) → length s.state ≡ 16 → Accepted ts s → AllKept ts s ks
    → walk (reverse_aux ks more) (run ts s) ≡ walk more s
unfolding run
walk-steps [] s [] more e accepted kept = refl
walk-steps [] s (k ∷ ks) more e accepted kept = absurd kept
walk-steps (t ∷ ts) s [] more e accepted kept = absurd kept
walk-steps (t ∷ ts) s (k ∷ ks) more e accepted kept =
    walk-steps ts (after t s) ks (k ∷ more) (after-length t s) accepted.1 kept.1
    ∙ walk-on k more (after t s) (back-step t s k e accepted.0 kept.0)

-- the sponge that the history began with
pub walk-back : (ts : List Step) (s : Tip5) (ks : List Kept) → length s.state ≡ 16 → Accepted ts s → AllKept ts s ks
    → walk (reverse ks) (run ts s) ≡ Ok s
walk-back ts s ks e accepted kept = walk-steps ts s ks [] e accepted kept

-- the sponge before step k, for every k: walk back what is kept of step k and those after it, last step first
pub walk-back-to : (k : ℕ) (ts : List Step) (s : Tip5) (ks : List Kept) → length s.state ≡ 16 → Accepted ts s → AllKept ts s ks
    → walk (reverse (drop k ks)) (run ts s) ≡ Ok (run (take k ts) s)
unfolding run
walk-back-to zero ts s ks e accepted kept = walk-back ts s ks e accepted kept
walk-back-to (suc k) [] s [] e accepted kept = refl
walk-back-to (suc k) [] s (x ∷ ks) e accepted kept = absurd kept
walk-back-to (suc k) (t ∷ ts) s [] e accepted kept = absurd kept
walk-back-to (suc k) (t ∷ ts) s (x ∷ ks) e accepted kept =
    walk-back-to k ts (after t s) ks (after-length t s) accepted.1 kept.1

-- the empty history gives the sponge itself
pub walk-none : (s : Tip5) → walk [] s ≡ Ok s
walk-none s = refl

-- a padded absorb, each ten of which is a step
pub walk-back-padded : (s : Tip5) (input : List ℕ) (ks : List Kept) → length s.state ≡ 16 → pad_refusal s input ≡ none → AllKept (padded_steps input) s ks
    → and_then (pad_and_absorb_all s input) (walk (reverse ks)) ≡ Ok s
walk-back-padded s input ks e accepted kept =
    ap (λ (a : Result Tip5 Refusal). and_then a (walk (reverse ks))) (granted-ok {next = run (padded_steps input) s} accepted refl)
    ∙ walk-back (padded_steps input) s ks e (padded-accepted s input accepted) kept

-- What is kept of a history can always be had: the ten overwritten words, and beside a squeeze ten zeros

abbrev pub keep : Step → Tip5 → Kept
keep squeeze s = record { kind = Squeeze; ten = replicate 10 0 }
keep (absorb ten) s = record { kind = Absorb; ten = rate s }

abbrev pub keep_all : List Step → Tip5 → List Kept
keep_all [] s = []
keep_all (t ∷ ts) s = keep t s ∷ keep_all ts (after t s)

keeps : (t : Step) (s : Tip5) → Keeps t s (keep t s)
keeps squeeze s = (refl, refl)
keeps (absorb ten) s = (refl, refl)

pub all-kept : (ts : List Step) (s : Tip5) → AllKept ts s (keep_all ts s)
all-kept [] s = tt
all-kept (t ∷ ts) s = (keeps t s, all-kept ts (after t s))
