-- No second outcome: the calls of lines, sheet and answers.
-- Assumes nothing.
use Rattle.lines.proofs.digest_line.Reads as digest-line
use Rattle.lines.proofs.draw_line.Reads as draw-line
use Rattle.lines.proofs.refused_line.Reads as refused-line
use Rattle.sheet.proofs.header.HeaderFromArrayU86.from.Reads as header-from
use Rattle.sheet.proofs.header.read_header.Reads as read-header
use Rattle.sheet.proofs.judge.judge_sheet.Reads as judge-sheet
use Rattle.sheet.proofs.read.read_sheet.Reads as read-sheet
use Rattle.answers.proofs.sheet_line.sheet_line.Reads as sheet-line
use Rattle.outcomes.specs.Outcome.{OneAnswer, OneExit}
use Rattle.outcomes.proofs.Same.{same}

-- Lines

pub digest-line-once : OneAnswer digest-line.Learnt
digest-line-once κs a x y e f h k = same h.counted k.counted

pub digest-line-leaves : OneExit digest-line.Learnt λ κs e. e.1.0.now
digest-line-leaves κs a x y e f h k = same h.stored k.stored

pub draw-line-once : OneAnswer draw-line.Learnt
draw-line-once κs a x y e f h k = same h.counted k.counted

pub draw-line-leaves : OneExit draw-line.Learnt λ κs e. e.1.1.0.now
draw-line-leaves κs a x y e f h k = same h.stored k.stored

pub refused-line-once : OneAnswer refused-line.Learnt
refused-line-once κs a x y e f h k = same h.counted k.counted

pub refused-line-leaves : OneExit refused-line.Learnt λ κs e. e.1.0.now
refused-line-leaves κs a x y e f h k = same h.stored k.stored

-- Sheets

pub header-from-once : OneAnswer header-from.Learnt
header-from-once κs a x y e f h k = same h k

pub read-header-once : OneAnswer read-header.Learnt
read-header-once κs a x y e f h k = same h k

pub judge-sheet-once : OneAnswer judge-sheet.Learnt
judge-sheet-once κs a x y e f h k = same h k

pub read-sheet-once : OneAnswer read-sheet.Learnt
read-sheet-once κs a x y e f h k = same h.0 k.0

pub read-sheet-leaves : OneExit read-sheet.Learnt λ κs e. e.1.0.now
read-sheet-leaves κs a x y e f h k = same h.1 k.1

-- Answers

pub sheet-line-once : OneAnswer sheet-line.Learnt
sheet-line-once κs a x y e f h k = same h.counted k.counted

pub sheet-line-leaves : OneExit sheet-line.Learnt λ κs e. e.1.0.now
sheet-line-leaves κs a x y e f h k = same h.stored k.stored
