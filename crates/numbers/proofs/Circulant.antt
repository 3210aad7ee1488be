-- The circulant's index rule: 1 in word 0 alone gives back the column.
-- Assumes nothing.
use mathlib.Core.List.{List, ◌∷◌}
use mathlib.Core.Path.{◌≡◌}
use Prim.Native.Nat.{ℕ, ◌<◌}
use native.Mathlib.Omega.{arith}
use lib.ListN.{get_or, replicate}
use Rattle.numbers.specs.Circulant.{row_sum}
use Rattle.numbers.proofs.Table.{below-fact}

-- one in word 0, zeros elsewhere
abbrev pub first_word : List ℕ
first_word = 1 ∷ replicate 15 0

pub row_sum-first_word : (column : List ℕ) (r : ℕ) → r < 16 → row_sum column first_word r ≡ get_or column r 0
unfolding row_sum
row_sum-first_word column = below-fact (λ r. row_sum column first_word r ≡ get_or column r 0) 16 (omega arith)
