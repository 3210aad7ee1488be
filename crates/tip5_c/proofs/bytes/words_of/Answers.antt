-- `bytes::words_of` meets its contract: the words before k are there.
-- Assumes nothing.
use mathlib.Core.Path.{◌∙◌}
use mathlib.Core.List.{[]}
use Prim.Native.Nat.{◌/◌}
use native.Mathlib.Omega.{arith}
use lib.ListN.{length}
use Rattle.numbers.proofs.Fill.{filled-all, filled-more}
use Rattle.tip5_c.specs.Bytes.{words_of}
use Rattle.tip5_c.proofs.WordLaws.{word-of-chunk}
use Rattle.tip5_c.proofs.bytes.words_of.Goals as goal

pub loop-k-preserved : goal.loop-k-preserved
loop-k-preserved c = filled-more c.loop-k.invariant c.loop-k-test.true (c.from_le_bytes.ensures ∙ rw c.as_chunks.ensures.front (word-of-chunk c.args.bytes.now (length c.args.bytes.now / 8) c.loop-k.k [] (omega (arith, c.requires))))

pub returns : goal.returns
unfolding words_of
returns c = filled-all c.loop-k.invariant (omega arith)
