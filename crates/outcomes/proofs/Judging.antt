-- No second outcome: judging words, lengths and rounds, and the number of a refusal.
-- Assumes nothing.
use Rattle.refusals.proofs.judge.judge_words.Reads as judge-words
use Rattle.refusals.proofs.judge.judge_length.Reads as judge-length
use Rattle.refusals.proofs.judge.judge_round.Reads as judge-round
use Rattle.refusals.proofs.refusal.number.Reads as number
use Rattle.refusals.proofs.refusal.U8FromRefusal.from.Reads as u8-from
use Rattle.outcomes.specs.Outcome.{OneAnswer}
use Rattle.outcomes.proofs.Same.{same}

pub judge-words-once : OneAnswer judge-words.Learnt
judge-words-once κs a x y e f h k = same h.0 k.0

pub judge-length-once : OneAnswer judge-length.Learnt
judge-length-once κs a x y e f h k = same h.0 k.0

pub judge-round-once : OneAnswer judge-round.Learnt
judge-round-once κs a x y e f h k = same h k

pub number-once : OneAnswer number.Learnt
number-once κs a x y e f h k = same h k

pub u8-from-once : OneAnswer u8-from.Learnt
u8-from-once κs a x y e f h k = same h k
