-- `tip5_permutation`: the words after the move are those of `permuted`.
-- Assumes nothing.
use Rattle.rounds.specs.Round.{permuted}
use Rattle.tip5_c.proofs.tip5_permutation.Given as goal

abbrev pub ghost-moved : goal.ghost-moved
ghost-moved a = permuted
