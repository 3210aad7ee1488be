-- The line of a judged sheet in the numbers of its header and the words of its elements.
use Rattle.std.specs.Prelude.{List, map, ℕ, zero, suc, ◌^◌}
use Rattle.rounds.specs.Field.{value_of}
use Rattle.sponge.specs.Digest.{digest_of}
use Rattle.draws.specs.Draw.{Draw, draw}
use Rattle.lines.specs.Line.{digest_line}
use Rattle.sheet.specs.declared.header.Header.{Header}
use Rattle.answers.specs.Answer.{drawn_line, seeded_by}

-- the draw of as many indices as are wanted
abbrev pub draw_by : Header → (words : List ℕ) (wanted : ℕ) → Draw
draw_by h words wanted = draw (2 ^ h.log2) h.allowance wanted (seeded_by words)

-- the line by its job
abbrev pub line_by : (job : ℕ) → Header → (words : List ℕ) → List ℕ
line_by zero h words = digest_line (map value_of (digest_of words))
line_by (suc j) h words = drawn_line h.indices (draw_by h words h.indices)
