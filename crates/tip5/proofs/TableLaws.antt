-- What is read off a table that is known to be a rule's.
-- Assumes nothing.
use mathlib.Core.List.{List}
use mathlib.Core.Path.{◌≡◌, ap, ◌∙◌}
use Prim.Native.Nat.{ℕ, ◌<◌}
use lib.ListN.{get_or}
use Rattle.numbers.specs.Lists.{tab}
use Rattle.numbers.proofs.Lists.{get_or-tab₀}

pub entry-read : {table : List ℕ} (n : ℕ) (f : ℕ → ℕ) → table ≡ tab n 0 f → (k : ℕ) → k < n → get_or table k 0 ≡ f k
entry-read n f e k h = ap (λ (l : List ℕ). get_or l k 0) e ∙ get_or-tab₀ n f k h
