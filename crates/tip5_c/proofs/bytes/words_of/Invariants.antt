-- `bytes::words_of` meets its contract: the words before k are there.
-- Assumes nothing.
use Rattle.numbers.specs.Fill.{Filled}
use Rattle.tip5_c.specs.Bytes.{word_at}
use Rattle.tip5_c.proofs.bytes.words_of.Given as goal

abbrev pub invariant-loop-k : goal.invariant-loop-k
invariant-loop-k l = Filled 16 (λ i. word_at l.bytes i) l.k l.words
