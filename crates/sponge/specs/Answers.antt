-- What the calls answer: refusal 2 for a slice of another length, then 1 for a word of P or more.
use Rattle.std.specs.Prelude.{List, [], ◌∷◌, ℕ, Result}
use Rattle.refusals.specs.declared.refusal.Refusal.{Refusal}
use Rattle.refusals.specs.Judge.{Judgement, first, granted, length_refusal, word_refusal}
use Rattle.sponge.specs.declared.step_back.StepKind.{StepKind}
use Rattle.sponge.specs.declared.step_back.StepKind.TheVariants.{Squeeze, Absorb}
use Rattle.sponge.specs.declared.Tip5.{Tip5}
use Rattle.sponge.specs.Digest.{digest_of, digest_of_pair, digest_of_ten}
use Rattle.sponge.specs.History.{padded_steps, run}
use Rattle.sponge.specs.Sponge.{absorbed, rate, squeezed, unabsorbed, unsqueezed}

-- What is refused: each list has the refusals in their order

-- a sponge that is squeezed
abbrev pub squeeze_refusal : Tip5 → Judgement
squeeze_refusal s = word_refusal s.state

-- a sponge and an input of any length
abbrev pub pad_refusal : Tip5 → (input : List ℕ) → Judgement
pad_refusal s input = first (word_refusal s.state ∷ word_refusal input ∷ [])

-- a sponge and ten words
abbrev pub absorb_refusal : Tip5 → (ten : List ℕ) → Judgement
absorb_refusal s ten = first (length_refusal 10 ten ∷ word_refusal s.state ∷ word_refusal ten ∷ [])

-- ten words to hash
abbrev pub hash10_refusal : (ten : List ℕ) → Judgement
hash10_refusal ten = first (length_refusal 10 ten ∷ word_refusal ten ∷ [])

-- two digests to hash
abbrev pub hash_pair_refusal : (left right : List ℕ) → Judgement
hash_pair_refusal left right = first (length_refusal 5 left ∷ length_refusal 5 right ∷ word_refusal left ∷ word_refusal right ∷ [])

-- The sponge: the next one, and the ten words of a squeeze

abbrev pub absorb : Tip5 → (ten : List ℕ) → Result Tip5 Refusal
absorb s ten = granted (absorb_refusal s ten) (absorbed ten s)

abbrev pub squeeze : Tip5 → Result (Tip5 × List ℕ) Refusal
squeeze s = granted (squeeze_refusal s) (squeezed s, rate s)

abbrev pub pad_and_absorb_all : Tip5 → (input : List ℕ) → Result Tip5 Refusal
pad_and_absorb_all s input = granted (pad_refusal s input) (run (padded_steps input) s)

-- Digests

abbrev pub hash10 : (ten : List ℕ) → Result (List ℕ) Refusal
hash10 ten = granted (hash10_refusal ten) (digest_of_ten ten)

abbrev pub hash_pair : (left right : List ℕ) → Result (List ℕ) Refusal
hash_pair left right = granted (hash_pair_refusal left right) (digest_of_pair left right)

abbrev pub hash_varlen : (input : List ℕ) → Result (List ℕ) Refusal
hash_varlen input = granted (word_refusal input) (digest_of input)

-- One step back

-- beside an absorb the saved words are judged, beside a squeeze the ten places are not
abbrev pub step_back_refusal : StepKind → Tip5 → (ten : List ℕ) → Judgement
step_back_refusal Squeeze s ten = first (length_refusal 10 ten ∷ word_refusal s.state ∷ [])
step_back_refusal Absorb s ten = absorb_refusal s ten

abbrev pub stepped_back : StepKind → Tip5 → (ten : List ℕ) → Tip5
stepped_back Squeeze s ten = unsqueezed s
stepped_back Absorb s ten = unabsorbed ten s

abbrev pub step_back : StepKind → Tip5 → (ten : List ℕ) → Result Tip5 Refusal
step_back kind s ten = granted (step_back_refusal kind s ten) (stepped_back kind s ten)
