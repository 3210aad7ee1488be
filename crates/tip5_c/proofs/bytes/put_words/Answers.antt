-- `bytes::put_words` meets its contract: the bytes of the words before k are there.
-- Assumes nothing.
use mathlib.Core.Path.{◌∙◌}
use native.Mathlib.Omega.{arith}
use Rattle.numbers.proofs.Fill.{filled-all}
use Rattle.tip5_c.specs.Bytes.{bytes_of}
use Rattle.tip5_c.proofs.WordLaws.{filled-word}
use Rattle.tip5_c.proofs.bytes.put_words.Goals as goal

pub loop-k-preserved : goal.loop-k-preserved
loop-k-preserved c = filled-word c.args.words c.loop-k.invariant c.loop-k-test.true (omega arith) (c.copy_from_slice.ensures.after ∙ c.to_le_bytes.ensures)

pub returns : goal.returns
unfolding bytes_of
returns c = filled-all c.loop-k.invariant (omega arith)
