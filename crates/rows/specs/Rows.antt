-- Hashing of rows: which words a row has, the digests of all rows, the refusals in their order, and what stands in the digest slice
-- after the call.
use Rattle.std.specs.Prelude.{cond, ◌||◌, List, [], ◌∷◌, ◌++◌, ℕ, zero, suc, ◌*◌, eqb, drop, length, take, Err}
use Rattle.refusals.specs.declared.refusal.Refusal.TheVariants.{WrongShape}
use Rattle.refusals.specs.Judge.{Judgement, first, length_refusal, none, unless, word_refusal}
use Rattle.sponge.specs.Digest.{digest_of}

-- lists 0, 1, .., n of them, one after another
unfoldable pub joined : (n : ℕ) → (ℕ → List ℕ) → List ℕ
joined zero lists = []
joined (suc n) lists = joined n lists ++ lists n

-- column c: columns lie one after another, each of `rows` entries of `width` words
unfoldable pub column_of : (words : List ℕ) (rows width : ℕ) → (c : ℕ) → List ℕ
column_of words rows width c = take (rows * width) (drop (c * (rows * width)) words)

-- the parts of a column's entry r, in order
unfoldable pub entry_of : (column : List ℕ) (width : ℕ) → (r : ℕ) → List ℕ
entry_of column width r = take width (drop (r * width) column)

-- row r: for column 0, 1, .., its parts in order
unfoldable pub row : (words : List ℕ) (columns rows width : ℕ) → (r : ℕ) → List ℕ
row words columns rows width r = joined columns (λ c. entry_of (column_of words rows width c) width r)

-- as many digests as rows, and none at zero columns
unfoldable pub digest_count : (columns rows : ℕ) → ℕ
digest_count zero rows = 0
digest_count (suc n) rows = rows

-- the digest of each row
unfoldable pub row_digests : (words : List ℕ) (columns rows width : ℕ) → List ℕ
row_digests words columns rows width = joined (digest_count columns rows) (λ r. digest_of (row words columns rows width r))

-- refused for a width that is not 1 or 3
abbrev pub width_refusal : (width : ℕ) → Judgement
width_refusal width = cond (eqb width 1 || eqb width 3) none (Err WrongShape)

-- refused for words that are not as many as the columns have: a product of whole numbers
abbrev pub size_refusal : (words : List ℕ) (columns rows width : ℕ) → Judgement
size_refusal words columns rows width = cond (eqb (length words) (columns * rows * width)) none (Err WrongShape)

-- the first refusal: after the shape's come the one for room that is not five words a digest, and the one for a word of P or more
abbrev pub rows_refusal : (words : List ℕ) (columns rows width : ℕ) (room : List ℕ) → Judgement
rows_refusal words columns rows width room =
    first (width_refusal width ∷ size_refusal words columns rows width ∷ length_refusal (5 * digest_count columns rows) room ∷ word_refusal words ∷ [])

-- the digests, or the room as it was where the call is refused
abbrev pub hashed_rows : (words : List ℕ) (columns rows width : ℕ) (room : List ℕ) → List ℕ
hashed_rows words columns rows width room = unless (rows_refusal words columns rows width room) (row_digests words columns rows width) room
