-- A list that a loop fills from the front.
use Rattle.std.specs.Prelude.{List, ◌≡◌, ℕ, ◌≤◌, ◌<◌, length, get_or}

-- of the n entries the first r are f's
pub record Filled (n : ℕ) (f : ℕ → ℕ) (r : ℕ) (out : List ℕ) : Type 0 where
  pub within : r ≤ n
  pub long : length out ≡ n
  pub front : (k : ℕ) → k < r → get_or out k 0 ≡ f k
