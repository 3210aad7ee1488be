-- `digest_line` meets its contract: the head and the values that are passed stand in front.
-- Assumes nothing.
use native.Mathlib.Omega.{arith}
use lib.ListN.{take}
use Rattle.std.proofs.Common.{rules}
use Rattle.std.proofs.lemmas.List.{take_more, take_all}
use Rattle.lines.specs.Line.{ascii, digest_line, spaced}
use Rattle.lines.proofs.LineLaws.{front-line, front-number}
use Rattle.lines.proofs.digest_line.Goals as goal

pub loop-value-init : goal.loop-value-init
unfolding spaced
loop-value-init c = (c.put-at.ensures, search rules)

pub loop-value-preserved : goal.loop-value-preserved
loop-value-preserved c =
    let l = c.loop-value in
    let vs = c.args.values.now in (
      rw (take_more vs l.value-index 0 (omega arith))
          (front-number 65536 (ascii "digest") (take l.value-index vs) (search rules) (search rules) l.invariant.0 c.put_number-at.ensures.text),
      omega arith,
    )

pub returns : goal.returns
unfolding digest_line
returns c =
    let l = c.loop-value in
    front-line 65536 (ascii "digest") c.args.values.now (omega arith) (search rules) (rw (take_all l.value-index c.args.values.now (omega arith)) at l.invariant.0) c.put.ensures
