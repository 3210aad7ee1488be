-- The matrices of the parts that the product is made of.
use Rattle.std.specs.Prelude.{ℕ, ◌+◌, ◌-◌, ◌*◌, ◌^◌, List}
use Rattle.numbers.specs.Circulant.{entry}
use Rattle.numbers.specs.Lists.{tab}
use Rattle.numbers.specs.Linear.{unit, ◌⊕◌, ◌⊛◌, rows}
use Rattle.matrix.specs.Column.{mds_column}

-- -1, modulo 2^64
abbrev pub minus_one : ℕ
minus_one = 2 ^ 64 - 1

-- each word and n times the word eight places on, 16 words to 8
abbrev pub fold_matrix : ℕ → List (List ℕ)
fold_matrix n = rows 8 0 (λ r. unit r ⊕ n ⊛ unit (8 + r))

-- row r of the circulant, its left half and n times its right half added, times 8
abbrev pub folded_row : (n r : ℕ) → List ℕ
folded_row n r = tab 8 0 (λ c. 8 * (entry mds_column r c + n * entry mds_column r (8 + c)))

-- the sums of words eight places apart
abbrev pub sums_matrix : List (List ℕ)
sums_matrix = fold_matrix 1

-- the differences of words eight places apart
abbrev pub differences_matrix : List (List ℕ)
differences_matrix = fold_matrix minus_one

-- eight sums to the eight words of the cyclic half
abbrev pub cyclic_matrix : List (List ℕ)
cyclic_matrix = rows 8 0 (λ r. folded_row 1 r)

-- eight differences to words 0, 2, 4, 6 of the negacyclic half
abbrev pub even_matrix : List (List ℕ)
even_matrix = rows 4 0 (λ k. folded_row minus_one (2 * k))

-- eight differences to words 1, 3, 5, 7 of the negacyclic half
abbrev pub odd_matrix : List (List ℕ)
odd_matrix = rows 4 0 (λ k. folded_row minus_one (2 * k + 1))
