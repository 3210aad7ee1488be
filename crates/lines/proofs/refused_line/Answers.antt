-- `refused_line` meets its contract.
-- Assumes nothing.
use mathlib.Core.List.{[], ◌∷◌}
use Rattle.std.proofs.Common.{rules}
use Rattle.lines.specs.Line.{ascii, refused_line, spaced}
use Rattle.lines.proofs.LineLaws.{front-line, front-number}
use Rattle.lines.proofs.refused_line.Goals as goal

pub returns : goal.returns
unfolding refused_line spaced
returns c =
    front-line 65536 (ascii "refused") (c.args.refusal ∷ []) (search rules) (search rules)
    (front-number 65536 (ascii "refused") [] (search rules) (search rules) c.put-at.ensures c.put_number-at.ensures.text)
    c.put.ensures
