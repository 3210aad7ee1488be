-- The laws of a view: where a row's word stands, and which answer an entry has by the row count.
-- Assumes nothing.
use mathlib.Core.Bool.{Bool, true, false, cond}
use mathlib.Core.List.{List, [], ◌∷◌}
use mathlib.Core.Path.{◌≡◌, refl, sym}
use Prim.Native.Nat.{ℕ, ◌+◌, ◌*◌, ◌/◌, ◌≤◌, ◌<◌}
use native.Mathlib.Nat.{le-div_iff_mul-le}
use native.Mathlib.Omega.{arith}
use borrow.Author.Tests.{le-ltb, lt-ltb, ltb-true}
use lib.Dec.{ltb}
use lib.ListN.{length}
use Rattle.std.specs.Prelude.{Ok, Err}
use Rattle.refusals.specs.declared.refusal.Refusal.TheVariants.{BadWord, WrongShape}
use Rattle.refusals.specs.Judge.{Judgement, first, granted, none, unless, word_refusal}
use Rattle.columns.specs.Column.{entry, row_count, view_refusal, word_at}

-- a row's word stands before the end: one stride more than the rows before it take still fits into the length
pub row-within : (n stride offset row : ℕ) → row < n / stride → offset < stride → offset + row * stride < n
row-within n stride offset row there low = omega (arith, (le-div_iff_mul-le {k = stride} (omega arith)).0 there)

-- a row below a count that was answered
module _ (words : List ℕ) (stride offset row : ℕ) {count : ℕ} (counted : Ok count ≡ row_count words stride offset) where
  -- the view is good and the row is there
  pub there : row < count → (offset < stride) × (row < length words / stride)
  there h = go (ltb offset stride) refl counted
    where
      go : (b : Bool) → ltb offset stride ≡ b → Ok count ≡ granted (cond b none (Err WrongShape)) (length words / stride) → (offset < stride) × (row < length words / stride)
      go true e k = (ltb-true offset stride e, (let same : count ≡ length words / stride = cc in omega (arith, h, same)))
      go false e k = absurd (cc)

  pub entry_within : row < count → offset + row * stride < length words
  entry_within h = row-within (length words) stride offset row (there h).1 (there h).0

  pub entry_bad : row < count → word_refusal (word_at words stride offset row ∷ []) ≡ Err BadWord → Err BadWord ≡ entry words stride offset row
  entry_bad h bad = simp (lt-ltb _ _ (there h).0, lt-ltb _ _ (there h).1, bad)

  pub entry_granted : row < count → word_refusal (word_at words stride offset row ∷ []) ≡ none → Ok (word_at words stride offset row) ≡ entry words stride offset row
  entry_granted h good = simp (lt-ltb _ _ (there h).0, lt-ltb _ _ (there h).1, good)

-- an entry past the last row, and of a view that has none

-- of a test of the view, and the number of rows
past : (b : Bool) (n row word : ℕ) (judged : Judgement) → unless (cond b none (Err WrongShape)) n 0 ≤ row
    → Err WrongShape ≡ granted (first (cond b none (Err WrongShape) ∷ cond (ltb row n) none (Err WrongShape) ∷ judged ∷ [])) word
past true n row word judged h = sym (simp (le-ltb row n h))
past false n row word judged h = refl

-- as many rows as the view answers, none where it is refused
pub entry_past : (words : List ℕ) (stride offset row : ℕ) → unless (view_refusal stride offset) (length words / stride) 0 ≤ row
    → Err WrongShape ≡ entry words stride offset row
entry_past words stride offset row h =
    past (ltb offset stride) (length words / stride) row (word_at words stride offset row) (word_refusal (word_at words stride offset row ∷ [])) h
