-- `index::put_indices` meets its contract.
-- Assumes nothing.
use Rattle.draws.proofs.IndexLaws.{put_goes_on}
use Rattle.draws.proofs.index.put_indices.Goals as goal

pub loop-word-preserved : goal.loop-word-preserved
loop-word-preserved c =
    put_goes_on c.args.bound c.args.words.now c.args.free.now c.loop-word-test.true c.loop-word.invariant c.put_index-put.ensures
