-- The circulant matrix of a first column of sixteen numbers.
use Rattle.std.specs.Prelude.{List, ℕ, ◌+◌, ◌-◌, ◌*◌, ◌%◌, get_or}
use Rattle.numbers.specs.Lists.{total}

-- the entry in row r and column c
abbrev pub entry : (column : List ℕ) (r c : ℕ) → ℕ
entry column r c = get_or column ((16 + r - c) % 16) 0

-- row r times the words: the sum over c of the entry times word c
unfoldable pub row_sum : (column words : List ℕ) (r : ℕ) → ℕ
row_sum column words r = total 16 0 (λ c. entry column r c * get_or words c 0)
