-- Why a call in place is refused: 8 for a round over 4, then 2 for a slice that is not sixteen words, then 1 for a word of P
-- or more.
use Rattle.std.specs.Prelude.{List, [], ◌∷◌, ℕ}
use Rattle.refusals.specs.Judge.{Judgement, first, length_refusal, word_refusal, round_refusal}

abbrev pub slice_refusal : List ℕ → Judgement
slice_refusal s = first (length_refusal 16 s ∷ word_refusal s ∷ [])

abbrev pub round_slice_refusal : (i : ℕ) → List ℕ → Judgement
round_slice_refusal i s = first (round_refusal i ∷ slice_refusal s ∷ [])
