-- Of words below 2^32 the row sums are so small that 16 times one of them is a word: nothing wraps, and a sixteenth is the row sum.
-- Assumes nothing.
use Rattle.std.proofs.Common.{◌≡◌, ℕ, ◌+◌, ◌-◌, ◌*◌, ◌/◌, ◌%◌, ◌^◌, ◌<◌, ◌≤◌, eqb, List, get_or, ap, ◌∙◌, le_trans, le_of_eq, mod-lt, mod-eq_of_lt, mul-le-mul_left, arith, lit<, eqb→eq}
use native.Mathlib.Nat.{le-pred_of_lt}
use Rattle.numbers.specs.Circulant.{entry, row_sum}
use Rattle.numbers.specs.Lists.{total}
use Rattle.numbers.proofs.Lists.{total-le, total-mul-right, total-same}
use Rattle.numbers.proofs.Table.{each-at}
use Rattle.matrix.specs.Column.{mds_column}

-- rows repeat after sixteen
row-again : (column s : List ℕ) (i : ℕ) → row_sum column s i ≡ row_sum column s (i % 16)
unfolding row_sum
row-again column s i =
    total-same 16 0
    λ c low high.
    let e : (16 + i - c) % 16 ≡ (16 + i % 16 - c) % 16 = omega arith in
    ap (λ (k : ℕ). get_or column k 0 * get_or s c 0) e

-- the entries of each row have the same sum: one test
row-weight : (i : ℕ) → i < 16 → total 16 0 (λ c. entry mds_column i c) ≡ 524757
row-weight i h = eqb→eq (total 16 0 (λ c. entry mds_column i c)) 524757 (each-at (λ r. eqb (total 16 0 (λ c. entry mds_column r c)) 524757) 16 tt i h)

module _ (s : List ℕ) (small : (k : ℕ) → get_or s k 0 < 2 ^ 32) where
  -- a row sum is at most the largest word times the sum of the row's entries
  row-le : (i : ℕ) → i < 16 → row_sum mds_column s i ≤ 524757 * (2 ^ 32 - 1)
  unfolding row_sum
  row-le i h =
      le_trans (total-le 16 0 λ c. mul-le-mul_left (entry mds_column i c) (le-pred_of_lt (small c)))
      (le_of_eq (total-mul-right 16 0 (2 ^ 32 - 1) (entry mds_column i) ∙ ap (λ (n : ℕ). n * (2 ^ 32 - 1)) (row-weight i h)))

  -- the same of every row
  pub row_sum-small : (i : ℕ) → row_sum mds_column s i ≤ 524757 * (2 ^ 32 - 1)
  row_sum-small i = rw (row-again mds_column s i) (row-le (i % 16) (mod-lt i (lit< tt)))

  -- 16 times it leaves room in a word
  pub generated-small : (i : ℕ) → 16 * row_sum mds_column s i < 2 ^ 56
  generated-small i = omega (arith, row_sum-small i)

  -- so that it does not wrap
  pub generated-exact : (i : ℕ) → (16 * row_sum mds_column s i) % 2 ^ 64 ≡ 16 * row_sum mds_column s i
  generated-exact i = mod-eq_of_lt (omega (arith, row_sum-small i))

  -- and its sixteenth is the row sum
  pub generated-sixteenth : (i : ℕ) → (16 * row_sum mds_column s i) % 2 ^ 64 / 16 ≡ row_sum mds_column s i
  generated-sixteenth i = rw (generated-exact i) (omega arith)
