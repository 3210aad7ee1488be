-- `tip5_inverse_permutation`: the words after the move are those of `inv_permuted`.
-- Assumes nothing.
use Rattle.rounds.specs.Inverse.{inv_permuted}
use Rattle.tip5_c.proofs.tip5_inverse_permutation.Given as goal

abbrev pub ghost-moved : goal.ghost-moved
ghost-moved a = inv_permuted
