-- Rows of coefficients: how they are added and scaled, and what a row and a matrix make of words.
-- A row that is too short counts as one with zeros at its end.
use Rattle.std.specs.Prelude.{List, [], ◌∷◌, map, ℕ, zero, suc, ◌+◌, ◌*◌, ◌%◌, get_or}

infixl 65 ◌⊕◌
infixl 70 ◌⊛◌
-- the row that takes word k alone
abbrev pub unit : ℕ → List ℕ
unit zero = 1 ∷ []
unit (suc k) = 0 ∷ unit k

-- the sum of two rows
abbrev pub ◌⊕◌ : List ℕ → List ℕ → List ℕ
◌⊕◌ [] b = b
◌⊕◌ (x ∷ a) [] = x ∷ a
◌⊕◌ (x ∷ a) (y ∷ b) = (x + y) ∷ (a ⊕ b)

-- n times a row
abbrev pub ◌⊛◌ : ℕ → List ℕ → List ℕ
◌⊛◌ n [] = []
◌⊛◌ n (x ∷ a) = (n * x) ∷ (n ⊛ a)

-- the sum of a row's entries times the words from place k on
abbrev pub dot : (row words : List ℕ) (k : ℕ) → ℕ
dot [] words k = 0
dot (x ∷ row) words k = x * get_or words k 0 + dot row words (suc k)

-- each row of a matrix times the words, modulo m
abbrev pub times : (m : ℕ) (matrix : List (List ℕ)) (words : List ℕ) → List ℕ
times m matrix words = map (λ row. dot row words 0 % m) matrix

-- the matrix of rows f i, f (i + 1), .., n rows
abbrev pub rows : (n i : ℕ) → (ℕ → List ℕ) → List (List ℕ)
rows zero i f = []
rows (suc n) i f = f i ∷ rows n (suc i) f
