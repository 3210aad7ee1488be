-- `bytes::put_words` meets its contract: the bytes of the words before k are there.
-- Assumes nothing.
use Prim.Native.Nat.{◌*◌}
use Rattle.numbers.specs.Fill.{Filled}
use Rattle.tip5_c.specs.Bytes.{byte_at}
use Rattle.tip5_c.proofs.bytes.put_words.Given as goal

abbrev pub invariant-loop-k : goal.invariant-loop-k
invariant-loop-k l = Filled 128 (byte_at l.words) (8 * l.k) l.bytes
