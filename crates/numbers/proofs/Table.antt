-- Tests that are computed over every entry of a table, or over every number below a bound, and what they give: one computed
-- test the rule at every number, and one list of facts the fact at every number.
-- Assumes nothing.
use mathlib.Core.Path.{◌≡◌, subst}
use mathlib.Core.Bool.{Bool, true, ◌&&◌}
use mathlib.Core.List.{List, [], ◌∷◌}
use mathlib.Core.Logic.{⊎_elim}
use Prim.Native.Nat.{ℕ, zero, suc, ◌+◌, ◌≤◌, ◌<◌, zero-le}
use native.Mathlib.Nat.{eq-or-lt_of_le}
use native.Mathlib.Omega.{arith}
use lib.Dec.{T}
use lib.Ieee.Fits.{and_l, and_r}

-- the test f passes at each entry of the list, with its place, the first place being i
abbrev pub every : (f : ℕ → ℕ → Bool) (i : ℕ) → List ℕ → Bool
every f i [] = true
every f i (x ∷ xs) = f i x && every f (suc i) xs

-- the test g passes at i, i + 1, .., n numbers
abbrev pub each : (g : ℕ → Bool) (n i : ℕ) → Bool
each g zero i = true
each g (suc n) i = g i && each g n (suc i)

-- the facts F i, F (i + 1), .., n of them, as the tuple (a, (b, (.., tt)))
abbrev pub Each : (F : ℕ → Type 0) (n i : ℕ) → Type 0
Each F zero i = Unit
Each F (suc n) i = F i × Each F n (suc i)

-- the fact at each number of the range
pub each-fact : (F : ℕ → Type 0) (n i : ℕ) → Each F n i → (k : ℕ) → i ≤ k → k < i + n → F k
each-fact F zero i fs k low high = absurd (omega arith)
each-fact F (suc n) i fs k low high =
    ⊎_elim (λ (e : i ≡ k). subst F e fs.0) (λ (h : i < k). each-fact F n (suc i) fs.1 k h (omega arith)) (eq-or-lt_of_le low)

-- the fact at each number below n
pub below-fact : (F : ℕ → Type 0) (n : ℕ) → Each F n 0 → (k : ℕ) → k < n → F k
below-fact F n fs k h = each-fact F n 0 fs k zero-le (omega arith)

-- a test that passes over a range, as facts
pub each-facts : (g : ℕ → Bool) (n i : ℕ) → T (each g n i) → Each (λ k. T (g k)) n i
each-facts g zero i t = tt
each-facts g (suc n) i t = (and_l (g i) (each g n (suc i)) t, each-facts g n (suc i) (and_r (g i) (each g n (suc i)) t))

-- a test that passes at 0, 1, .., n - 1 passes at each number below n
pub each-at : (g : ℕ → Bool) (n : ℕ) → T (each g n 0) → (k : ℕ) → k < n → T (g k)
each-at g n t = below-fact (λ k. T (g k)) n (each-facts g n 0 t)
