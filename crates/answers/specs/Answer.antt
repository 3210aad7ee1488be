-- What a sheet gives: a digest, a draw or a refusal, and the line that is written.
use Rattle.std.specs.Prelude.{cond, List, map, ℕ, zero, suc, ◌^◌, ltb, length}
use Rattle.rounds.specs.Field.{value_of}
use Rattle.refusals.specs.Judge.{unless}
use Rattle.refusals.specs.Number.{number}
use Rattle.sponge.specs.declared.Domain.TheVariants.{VariableLength}
use Rattle.sponge.specs.declared.Tip5.{Tip5}
use Rattle.sponge.specs.Digest.{digest_of}
use Rattle.sponge.specs.History.{padded_steps, run}
use Rattle.sponge.specs.Sponge.{start}
use Rattle.draws.specs.Draw.{Draw, draw}
use Rattle.lines.specs.Line.{digest_line, draw_line, refused_line}
use Rattle.sheet.specs.Sheet.{header_of, sheet_refusal, words_of}

-- the raw words of all elements
unfoldable pub elements_of : (sheet : List ℕ) → List ℕ
elements_of sheet = words_of (header_of sheet).elements sheet

-- the words that a draw absorbs: the elements alone
unfoldable pub seed_of : (sheet : List ℕ) → List ℕ
seed_of sheet = elements_of sheet

-- the values of the digest of the elements
unfoldable pub digest_values : (sheet : List ℕ) → List ℕ
digest_values sheet = map value_of (digest_of (elements_of sheet))

-- the sponge that a draw starts from: words padded and absorbed into the start for inputs of any length
unfoldable pub seeded_by : (words : List ℕ) → Tip5
seeded_by words = run (padded_steps words) (start VariableLength)

-- the draw of a sheet
unfoldable pub sheet_draw : (sheet : List ℕ) → Draw
sheet_draw sheet = draw (2 ^ (header_of sheet).log2) (header_of sheet).allowance (header_of sheet).indices (seeded_by (seed_of sheet))

-- its line: refusal 6 where indices are missing
unfoldable pub drawn_line : (wanted : ℕ) → Draw → List ℕ
drawn_line wanted d = cond (ltb (length d.indices) wanted) (refused_line 6) (draw_line d.squeezes d.indices)

-- the line of an accepted sheet, by its job
abbrev pub job_line : (job : ℕ) (sheet : List ℕ) → List ℕ
job_line zero sheet = digest_line (digest_values sheet)
job_line (suc j) sheet = drawn_line (header_of sheet).indices (sheet_draw sheet)

-- the line that any bytes give
unfoldable pub sheet_line : (sheet : List ℕ) → List ℕ
sheet_line sheet = unless (sheet_refusal sheet) (job_line (header_of sheet).job sheet) (refused_line (number (sheet_refusal sheet)))
