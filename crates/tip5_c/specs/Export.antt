-- What an export answers: refusal 2 where there are not 128 bytes, then 1 where a word is P or more; a refused call leaves
-- every byte as it was.
use Rattle.std.specs.Prelude.{List, [], ◌∷◌, ℕ}
use Rattle.refusals.specs.Judge.{Judgement, first, length_refusal, unless, word_refusal}
use Rattle.tip5_c.specs.Bytes.{bytes_of, words_of}

abbrev pub bytes_refusal : List ℕ → Judgement
bytes_refusal bytes = first (length_refusal 128 bytes ∷ word_refusal (words_of bytes) ∷ [])

-- the bytes after the words have moved, or as they were
abbrev pub after : (move : List ℕ → List ℕ) → List ℕ → List ℕ
after move bytes = unless (bytes_refusal bytes) (bytes_of (move (words_of bytes))) bytes
