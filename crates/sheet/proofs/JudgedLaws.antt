-- What a caller knows of a sheet that is accepted: its header and its words.
-- Assumes nothing.
use mathlib.Core.Bool.{cond}
use mathlib.Core.List.{List, [], ◌∷◌, ◌++◌}
use mathlib.Core.Path.{◌≡◌, refl, ap, subst, sym, ◌∙◌}
use Prim.Native.Nat.{ℕ, ◌+◌, ◌*◌, ◌^◌, ◌≤◌, ◌<◌}
use native.Mathlib.Nat.{le_of_suc-le-suc, le_trans}
use native.Mathlib.Omega.{arith}
use borrow.Author.Tests.{eqb-true, leb-true, ltb-true}
use lib.Dec.{eqb, leb, lit≤, ltb}
use lib.ListN.{drop, length, take, length-append}
use lib.Seq.{take_at}
use Rattle.std.specs.Prelude.{Ok, Err, IfOk, Result, T, is_ok}
use Rattle.numbers.proofs.Lists.{length-tab}
use Rattle.rounds.specs.Field.{raw_of}
use Rattle.rounds.proofs.FieldLaws.{raw_of-below}
use Rattle.rounds.proofs.RoundLaws.{tab-below}
use Rattle.refusals.specs.declared.refusal.Refusal.{Refusal}
use Rattle.refusals.specs.Judge.{Judgement, granted, none, unless, word_refusal}
use Rattle.refusals.specs.declared.refusal.Refusal.TheVariants.{BadHeader, WrongSheetLength}
use Rattle.refusals.proofs.JudgeLaws.{below_accepted, passed}
use Rattle.refusals.proofs.RefusalLaws.{none-first}
use Rattle.sheet.specs.declared.header.Header.{Header}
use Rattle.sheet.specs.Sheet.{element_limit, elements_in_front, field_refusal, header_of, judge_sheet, read_header, read_words, sheet_length_refusal, sheet_refusal, short_refusal, value, value_refusal, words_of}
use Rattle.sheet.proofs.BitLaws.{field-below}

-- what each refusal that did not come says
pub record Accepted (sheet : List ℕ) : Type 0 where
  pub version : (header_of sheet).version ≡ 1
  pub job : (header_of sheet).job < 2
  pub limit : (header_of sheet).elements ≤ element_limit
  pub exact : length sheet ≡ 6 + 8 * (header_of sheet).elements
  pub values : value_refusal (header_of sheet).elements sheet ≡ none

-- a sheet that is not refused
pub accepted : (sheet : List ℕ) → sheet_refusal sheet ≡ none → Accepted sheet
accepted sheet e =
    let h = header_of sheet in
    let long = sheet_length_refusal h.elements sheet in
    let last = value_refusal h.elements sheet in
    let fields = none-first (field_refusal h) (long ∷ last ∷ []) (none-first (short_refusal sheet) (field_refusal h ∷ long ∷ last ∷ []) e).1 in
    let rest = none-first long (last ∷ []) fields.1 in
    let job = cond (ltb h.job 2) none (Err BadHeader) in
    let limit = cond (leb h.elements element_limit) none (Err BadHeader) in
    let version = none-first (cond (eqb h.version 1) none (Err BadHeader)) (job ∷ limit ∷ []) fields.0 in
    let others = none-first job (limit ∷ []) version.1 in
    record {
      version = eqb-true _ _ (passed (eqb h.version 1) BadHeader version.0);
      job = ltb-true _ _ (passed (ltb h.job 2) BadHeader others.0);
      limit = leb-true _ _ (passed (leb h.elements element_limit) BadHeader (none-first limit [] others.1).0);
      exact = eqb-true _ _ (passed (eqb (length sheet) (6 + 8 * h.elements)) WrongSheetLength rest.0);
      values = (none-first last [] rest.1).0;
    }

-- an answer is granted where nothing is refused, and it is that answer
granted-ok : {A : Type 0} (j : Judgement) (a : A) {b : A} → Ok b ≡ granted j a → (j ≡ none) × (b ≡ a)
granted-ok {A} (Ok done) a {b} e = (refl, subst (λ (r : Result A Refusal). IfOk r (λ v. b ≡ v)) e refl)
granted-ok {A} (Err refusal) a e = absurd (subst (λ (r : Result A Refusal). T (is_ok r)) e tt)

-- a sheet that has a header, whatever its fields say

module _ (sheet : List ℕ) {header : Header} (read : Ok header ≡ read_header sheet) where
  pub header_read : header ≡ header_of sheet
  header_read = (granted-ok (short_refusal sheet) (header_of sheet) read).1

  -- thirteen bits, whatever the limit
  pub elements-below : header.elements < 2 ^ 13
  elements-below = rw header_read (field-below (take 6 sheet) 11 13)

-- the words of a sheet: as many as are asked for, and accepted, as raw words of values are below P

pub words_of-length : (n : ℕ) (sheet : List ℕ) → length (words_of n sheet) ≡ n
unfolding words_of
words_of-length n sheet = length-tab n 0 (λ i. raw_of (value sheet i))

pub words-good : (n : ℕ) (sheet : List ℕ) → word_refusal (words_of n sheet) ≡ none
unfolding words_of
words-good n sheet = below_accepted (words_of n sheet) (tab-below n 0 λ i. raw_of-below (value sheet i))

-- a refused sheet leaves what was lent
pub words-kept : (sheet words : List ℕ) {refusal : Refusal} → Err refusal ≡ judge_sheet sheet → words ≡ read_words sheet words
unfolding read_words
words-kept sheet words e = go (sheet_refusal sheet) e
  where
    go : (j : Judgement) {refusal : Refusal} → Err refusal ≡ granted j (header_of sheet) → words ≡ unless j (elements_in_front sheet words) words
    go (Ok done) h = absurd (cc)
    go (Err refusal) h = refl

-- an accepted sheet and its header

module _ (sheet : List ℕ) {header : Header} (judged : Ok header ≡ judge_sheet sheet) where
  pub judged_good : sheet_refusal sheet ≡ none
  judged_good = (granted-ok (sheet_refusal sheet) (header_of sheet) judged).0

  pub judged_header : header ≡ header_of sheet
  judged_header = (granted-ok (sheet_refusal sheet) (header_of sheet) judged).1

  -- it is as long as it says, and has no more elements than the array
  pub judged_length : (length sheet ≡ 6 + 8 * header.elements) × (header.elements ≤ 8191)
  judged_length =
      let known = accepted sheet judged_good in
      rw judged_header (known.exact, le_trans known.limit (lit≤ tt))

  -- its fields are within their bits
  pub judged_fields : (header.log2 < 32) × (header.indices ≤ 4095)
  judged_fields = rw judged_header (field-below (take 6 sheet) 6 5, le_of_suc-le-suc (field-below (take 6 sheet) 24 12))

  -- the words that are handed out

  pub words_read : (before : List ℕ) → read_words sheet before ≡ words_of header.elements sheet ++ drop header.elements before
  unfolding read_words
  words_read before =
      ap (λ (j : Judgement). unless j (elements_in_front sheet before) before) judged_good
      ∙ ap (λ (h : Header). words_of h.elements sheet ++ drop h.elements before) (sym judged_header)

  -- stand in front
  pub words_in_front : (before : List ℕ) {now : List ℕ} → now ≡ read_words sheet before → take header.elements now ≡ words_of header.elements sheet
  words_in_front before e =
      ap (take header.elements) (e ∙ words_read before)
      ∙ take_at (words_of header.elements sheet) (drop header.elements before) header.elements
      (words_of-length header.elements sheet)

  -- and are accepted
  pub words_accepted : (before : List ℕ) {now : List ℕ} → now ≡ read_words sheet before → word_refusal (take header.elements now) ≡ none
  words_accepted before e = ap word_refusal (words_in_front before e) ∙ words-good header.elements sheet

  -- there is room for them, and their part is as long as asked for

  pub part_room : (before : List ℕ) {now : List ℕ} → now ≡ read_words sheet before → header.elements ≤ length now
  part_room before {now} e =
      omega (
        arith,
        ap length (e ∙ words_read before) ∙ length-append (words_of header.elements sheet) (drop header.elements before),
        words_of-length header.elements sheet,
      )

  pub part_length : (before : List ℕ) {now : List ℕ} → now ≡ read_words sheet before → header.elements ≡ length (take header.elements now)
  part_length before e = sym (ap length (words_in_front before e) ∙ words_of-length header.elements sheet)
