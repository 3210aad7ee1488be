-- The line of a sheet once it is judged: a refusal, a digest or a draw.
-- Assumes nothing.
use mathlib.Core.List.{List}
use mathlib.Core.Path.{◌≡◌, refl, ap, sym, ◌∙◌}
use Prim.Native.Nat.{ℕ, zero, suc}
use lib.ListN.{take}
use Rattle.std.specs.Prelude.{Result, Ok, Err}
use Rattle.rounds.specs.Field.{Below}
use Rattle.refusals.specs.declared.refusal.Refusal.{Refusal}
use Rattle.refusals.specs.Judge.{Judgement, granted, unless}
use Rattle.refusals.specs.Number.{number, number_of}
use Rattle.refusals.proofs.JudgeLaws.{accepted_below}
use Rattle.sponge.specs.Digest.{digest_of}
use Rattle.sponge.proofs.DigestLaws.{digest_of-below}
use Rattle.lines.specs.Line.{refused_line}
use Rattle.sheet.specs.declared.header.Header.{Header}
use Rattle.sheet.specs.Sheet.{header_of, judge_sheet, read_words, sheet_refusal, words_of}
use Rattle.sheet.proofs.JudgedLaws.{judged_good, judged_header, words_accepted, words_in_front}
use Rattle.answers.specs.Answer.{digest_values, elements_of, job_line, seed_of, sheet_draw, sheet_line}
use Rattle.answers.specs.Job.{line_by}

-- the words of a digest are below P
pub digest_below : (words : List ℕ) → Below (digest_of words)
digest_below words = digest_of-below words

-- refused

pub line-refused : (sheet : List ℕ) {refusal : Refusal} {n : ℕ} → Err refusal ≡ judge_sheet sheet → n ≡ number_of refusal → refused_line n ≡ sheet_line sheet
unfolding sheet_line
line-refused sheet {refusal} e number-is = ap refused_line number-is ∙ go (sheet_refusal sheet) e
  where
    go : (j : Judgement) → ◌≡◌ {A = Result Header Refusal} (Err refusal) (granted j (header_of sheet))
        → refused_line (number_of refusal) ≡ unless j (job_line (header_of sheet).job sheet) (refused_line (number j))
    go (Ok done) h = absurd (cc)
    go (Err other) h =
        let same : refusal ≡ other = cc in
        ap (λ (r : Refusal). refused_line (number_of r)) same

-- accepted, in the numbers of the judged header and the words of its elements

by-job : (j : ℕ) (sheet : List ℕ) → line_by j (header_of sheet) (words_of (header_of sheet).elements sheet) ≡ job_line j sheet
unfolding digest_values sheet_draw seed_of elements_of
by-job zero sheet = refl
by-job (suc j) sheet = refl

module _ (sheet before : List ℕ) {header : Header} {words : List ℕ} (judged : Ok header ≡ judge_sheet sheet) (read : words ≡ read_words sheet before) where
  pub words-below : Below (take header.elements words)
  words-below = accepted_below (take header.elements words) (words_accepted sheet judged before read)

  pub line-accepted : line_by header.job header (take header.elements words) ≡ sheet_line sheet
  unfolding sheet_line
  line-accepted =
      ap (line_by header.job header) (words_in_front sheet judged before read)
      ∙ ap (λ (h : Header). line_by h.job h (words_of h.elements sheet)) (judged_header sheet judged)
      ∙ by-job (header_of sheet).job sheet
      ∙ sym (ap (λ (j : Judgement). unless j (job_line (header_of sheet).job sheet) (refused_line (number j))) (judged_good sheet judged))
