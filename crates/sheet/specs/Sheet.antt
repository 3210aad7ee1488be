-- A sheet's header and elements, and which sheets are accepted.
use Rattle.std.specs.Prelude.{cond, List, [], ◌∷◌, ◌++◌, ℕ, ◌+◌, ◌*◌, eqb, leb, ltb, length, take, drop, Result, Err}
use Rattle.numbers.specs.Lists.{tab}
use Rattle.rounds.specs.Field.{raw_of}
use Rattle.refusals.specs.declared.refusal.Refusal.{Refusal}
use Rattle.refusals.specs.declared.refusal.Refusal.TheVariants.{BadHeader, WrongSheetLength}
use Rattle.refusals.specs.Judge.{Judgement, first, granted, none, unless, word_refusal}
use Rattle.sheet.specs.declared.header.Header.{Header}
use Rattle.sheet.specs.Bits.{number}
use Rattle.sheet.specs.Header.{header}

-- the most elements that a sheet may have
abbrev pub element_limit : ℕ
element_limit = 4096

-- the header is the first six bytes
abbrev pub header_of : (sheet : List ℕ) → Header
header_of sheet = header (take 6 sheet)

-- the value of element i: the eight bytes from byte 6 + 8 * i on, the first of them the most significant
unfoldable pub value : (sheet : List ℕ) (i : ℕ) → ℕ
value sheet i = number (take 8 (drop (6 + 8 * i) sheet))

-- the values of n elements
unfoldable pub values_of : (n : ℕ) (sheet : List ℕ) → List ℕ
values_of n sheet = tab n 0 (λ i. value sheet i)

-- the raw words of n elements
unfoldable pub words_of : (n : ℕ) (sheet : List ℕ) → List ℕ
words_of n sheet = tab n 0 (λ i. raw_of (value sheet i))

-- refused for a sheet that has no header
abbrev pub short_refusal : (sheet : List ℕ) → Judgement
short_refusal sheet = cond (ltb (length sheet) 6) (Err WrongSheetLength) none

-- refused for a header that no sheet has, clause by clause; the log2, index and allowance fields, which a digest sheet
-- does not use, are not judged
abbrev pub field_refusals : Header → List Judgement
field_refusals h =
    cond (eqb h.version 1) none (Err BadHeader)
    ∷ cond (ltb h.job 2) none (Err BadHeader)
    ∷ cond (leb h.elements element_limit) none (Err BadHeader)
    ∷ []

-- the first of them
abbrev pub field_refusal : Header → Judgement
field_refusal h = first (field_refusals h)

-- refused for a sheet that is not as long as its number of elements says
abbrev pub sheet_length_refusal : (elements : ℕ) (sheet : List ℕ) → Judgement
sheet_length_refusal n sheet = cond (eqb (length sheet) (6 + 8 * n)) none (Err WrongSheetLength)

-- refused for a value that is P or more
abbrev pub value_refusal : (elements : ℕ) (sheet : List ℕ) → Judgement
value_refusal n sheet = word_refusal (values_of n sheet)

-- the judgements of a sheet with the header h, in their order
abbrev pub refusals : (h : Header) (sheet : List ℕ) → List Judgement
refusals h sheet =
    short_refusal sheet
    ∷ field_refusal h
    ∷ sheet_length_refusal h.elements sheet
    ∷ value_refusal h.elements sheet
    ∷ []

-- the refusal of a sheet, or none
abbrev pub sheet_refusal : (sheet : List ℕ) → Judgement
sheet_refusal sheet = first (refusals (header_of sheet) sheet)

-- the header of any sheet that has one
abbrev pub read_header : (sheet : List ℕ) → Result Header Refusal
read_header sheet = granted (short_refusal sheet) (header_of sheet)

-- the header of an accepted sheet
abbrev pub judge_sheet : (sheet : List ℕ) → Result Header Refusal
judge_sheet sheet = granted (sheet_refusal sheet) (header_of sheet)

-- the raw words of all elements in front of a list, and what stood after them as it was
abbrev pub elements_in_front : (sheet words : List ℕ) → List ℕ
elements_in_front sheet words = words_of (header_of sheet).elements sheet ++ drop (header_of sheet).elements words

-- a list that an accepted sheet's words were put in front of; a refused sheet leaves it
unfoldable pub read_words : (sheet words : List ℕ) → List ℕ
read_words sheet words = unless (sheet_refusal sheet) (elements_in_front sheet words) words
