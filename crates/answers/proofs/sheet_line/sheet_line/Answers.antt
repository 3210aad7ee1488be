-- `sheet_line::sheet_line` meets its contract.
-- Assumes nothing.
use Rattle.lines.proofs.PutLaws.{front-same}
use Rattle.sheet.proofs.JudgedLaws.{judged_fields}
use Rattle.answers.proofs.SheetLineLaws.{line-accepted, line-refused, words-below}
use Rattle.answers.proofs.sheet_line.sheet_line.Goals as goal

pub invariant_of-line : goal.invariant_of-line
invariant_of-line c =
    let read = c.in-Ok.ensures in
    let fields = judged_fields _ read.judged in
    record { bound = fields.0; room = fields.1; below = words-below _ _ read.judged read.read }

pub returns-in-Ok : goal.returns-in-Ok
returns-in-Ok c = front-same (line-accepted _ _ c.in-Ok.ensures.judged c.in-Ok.ensures.read) c.line.ensures

pub returns-in-Err : goal.returns-in-Err
returns-in-Err c = front-same (line-refused _ c.in-Err.ensures.judged c.into.ensures) c.refused_line.ensures
