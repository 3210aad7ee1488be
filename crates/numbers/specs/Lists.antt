-- Lists and sums over a range of numbers.
use Rattle.std.specs.Prelude.{List, [], ◌∷◌, ℕ, zero, suc, ◌+◌}

-- the list of f i, f (i + 1), .., n entries
abbrev pub tab : (n i : ℕ) → (ℕ → ℕ) → List ℕ
tab zero i f = []
tab (suc n) i f = f i ∷ tab n (suc i) f

-- the sum of f i, f (i + 1), .., n summands
abbrev pub total : (n i : ℕ) → (ℕ → ℕ) → ℕ
total zero i f = 0
total (suc n) i f = f i + total n (suc i) f
