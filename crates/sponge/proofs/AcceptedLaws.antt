-- What an accepted call says of its words: they are as many as wanted, and below P.
-- Assumes nothing.
use mathlib.Core.List.{List, [], ◌∷◌}
use mathlib.Core.Path.{◌≡◌, refl}
use Prim.Native.Nat.{ℕ}
use lib.ListN.{length}
use Rattle.rounds.specs.Field.{Below}
use Rattle.refusals.specs.Judge.{length_refusal, none, word_refusal}
use Rattle.refusals.proofs.JudgeLaws.{accepted_below, below_accepted}
use Rattle.refusals.proofs.RefusalLaws.{accepted-length, first-none, length-accepted, none-first}
use Rattle.sponge.specs.declared.step_back.StepKind.TheVariants.{Squeeze}
use Rattle.sponge.specs.declared.Tip5.{Tip5}
use Rattle.sponge.specs.Answers.{absorb_refusal, hash10_refusal, hash_pair_refusal, pad_refusal, step_back_refusal}

pub accepted-pad : (s : Tip5) (input : List ℕ) → pad_refusal s input ≡ none → Below s.state × Below input
accepted-pad s input e =
    let both = none-first (word_refusal s.state) (word_refusal input ∷ []) e in
    (accepted_below s.state both.0, accepted_below input (none-first (word_refusal input) [] both.1).0)

pub accepted-absorb : (s : Tip5) (ten : List ℕ) → absorb_refusal s ten ≡ none → (length ten ≡ 10) × Below s.state × Below ten
accepted-absorb s ten e =
    let long = none-first (length_refusal 10 ten) (word_refusal s.state ∷ word_refusal ten ∷ []) e in
    let both = accepted-pad s ten long.1 in
    (accepted-length 10 ten long.0, both.0, both.1)

pub accepted-places : (s : Tip5) (places : List ℕ) → step_back_refusal Squeeze s places ≡ none → (length places ≡ 10) × Below s.state
accepted-places s places e =
    let long = none-first (length_refusal 10 places) (word_refusal s.state ∷ []) e in
    (accepted-length 10 places long.0, accepted_below s.state (none-first (word_refusal s.state) [] long.1).0)

pub accepted-hash10 : (ten : List ℕ) → hash10_refusal ten ≡ none → (length ten ≡ 10) × Below ten
accepted-hash10 ten e =
    let long = none-first (length_refusal 10 ten) (word_refusal ten ∷ []) e in
    (accepted-length 10 ten long.0, accepted_below ten (none-first (word_refusal ten) [] long.1).0)

pub accepted-hash_pair : (left right : List ℕ) → hash_pair_refusal left right ≡ none → ((length left ≡ 5) × (length right ≡ 5)) × (Below left × Below right)
accepted-hash_pair left right e =
    let words = word_refusal left ∷ word_refusal right ∷ [] in
    let first = none-first (length_refusal 5 left) (length_refusal 5 right ∷ words) e in
    let second = none-first (length_refusal 5 right) words first.1 in
    let both = none-first (word_refusal left) (word_refusal right ∷ []) second.1 in (
      (accepted-length 5 left first.0, accepted-length 5 right second.0),
      (accepted_below left both.0, accepted_below right (none-first (word_refusal right) [] both.1).0),
    )

-- and the other way round

pub absorb-accepted : (s : Tip5) (ten : List ℕ) → length ten ≡ 10 → Below s.state → Below ten → absorb_refusal s ten ≡ none
absorb-accepted s ten e hs ht =
    first-none (word_refusal s.state ∷ word_refusal ten ∷ []) (length-accepted ten e)
    (first-none (word_refusal ten ∷ []) (below_accepted s.state hs) (first-none [] (below_accepted ten ht) refl))

pub places-accepted : (s : Tip5) (places : List ℕ) → length places ≡ 10 → Below s.state → step_back_refusal Squeeze s places ≡ none
places-accepted s places e hs =
    first-none (word_refusal s.state ∷ []) (length-accepted places e) (first-none [] (below_accepted s.state hs) refl)
