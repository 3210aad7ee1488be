-- `inverse_layers::inv_mds_matrix_mul` meets its contract.
-- Assumes nothing.
use Prim.Native.Nat.{◌%◌}
use Rattle.numbers.specs.Circulant.{row_sum}
use Rattle.numbers.specs.Fill.{Filled}
use Rattle.numbers.specs.Modulus.{P}
use Rattle.rounds.specs.Constants.{inv_mds_column}
use Rattle.tip5.proofs.inverse_layers.inv_mds_matrix_mul.Given as goal

abbrev pub invariant-loop-r : goal.invariant-loop-r
invariant-loop-r l = Filled 16 (λ k. row_sum inv_mds_column l.words k % P) l.r l.out
