-- `draw_line` meets its contract: the head, the squeezes and the indices that are passed stand in front.
-- Assumes nothing.
use mathlib.Core.List.{[], ◌∷◌}
use native.Mathlib.Omega.{arith}
use lib.ListN.{take}
use Rattle.std.proofs.Common.{rules}
use Rattle.std.proofs.lemmas.List.{take_more, take_all}
use Rattle.lines.specs.Line.{ascii, draw_line, spaced}
use Rattle.lines.proofs.LineLaws.{draw-bounded, front-line, front-number}
use Rattle.lines.proofs.draw_line.Goals as goal

pub loop-index-init : goal.loop-index-init
unfolding spaced
loop-index-init c = (front-number 65536 (ascii "draw") [] (search rules) (search rules) c.put-at.ensures c.put_number-at.ensures.text, omega arith)

pub loop-index-preserved : goal.loop-index-preserved
loop-index-preserved c =
    let l = c.loop-index in
    let is = c.args.indices.now in (
      rw (take_more is l.index-index 0 (omega arith))
          (front-number 65536 (ascii "draw") (c.args.squeezes ∷ take l.index-index is) (search rules) (search rules) l.invariant.0 c.put_number-at-in-loop-index.ensures.text),
      omega arith,
    )

pub returns : goal.returns
unfolding draw_line
returns c =
    let l = c.loop-index in
    let is = c.args.indices.now in
    rw (draw-bounded c.args.squeezes is (omega arith))
    (front-line 65536 (ascii "draw") (c.args.squeezes ∷ is) (omega arith) (search rules) (rw (take_all l.index-index is (omega arith)) at l.invariant.0) c.put.ensures)
