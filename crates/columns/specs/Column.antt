-- What a column view answers: a list of words, a stride and an offset. Refused as a wrong shape for a bad view or a row past the
-- end, then as a bad word for a word of P or more.
use Rattle.std.specs.Prelude.{cond, List, [], ◌∷◌, ℕ, ◌+◌, ◌*◌, ◌/◌, ltb, get_or, length, Result, Err}
use Rattle.refusals.specs.declared.refusal.Refusal.{Refusal}
use Rattle.refusals.specs.declared.refusal.Refusal.TheVariants.{WrongShape}
use Rattle.refusals.specs.Judge.{Judgement, first, granted, none, word_refusal}

-- refused for an offset that is not below the stride, as none is below stride 0
abbrev pub view_refusal : (stride offset : ℕ) → Judgement
view_refusal stride offset = cond (ltb offset stride) none (Err WrongShape)

-- refused for a row past the end
abbrev pub row_refusal : List ℕ → (stride row : ℕ) → Judgement
row_refusal words stride row = cond (ltb row (length words / stride)) none (Err WrongShape)

-- the word of a row; past the end stands 0
abbrev pub word_at : List ℕ → (stride offset row : ℕ) → ℕ
word_at words stride offset row = get_or words (offset + row * stride) 0

abbrev pub row_count : List ℕ → (stride offset : ℕ) → Result ℕ Refusal
row_count words stride offset = granted (view_refusal stride offset) (length words / stride)

abbrev pub entry_refusal : List ℕ → (stride offset row : ℕ) → Judgement
entry_refusal words stride offset row =
    first (view_refusal stride offset ∷ row_refusal words stride row ∷ word_refusal (word_at words stride offset row ∷ []) ∷ [])

abbrev pub entry : List ℕ → (stride offset row : ℕ) → Result ℕ Refusal
entry words stride offset row = granted (entry_refusal words stride offset row) (word_at words stride offset row)
