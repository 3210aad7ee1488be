-- Lists of one length, one after another: how long they are together, and which word stands at a place.
-- Assumes nothing.
use mathlib.Core.List.{List, ◌++◌}
use mathlib.Core.Path.{◌≡◌, ap, sym, ◌∙◌}
use Prim.Native.Nat.{ℕ, zero, suc, ◌+◌, ◌*◌, ◌/◌, ◌%◌, ◌<◌}
use native.Mathlib.Nat.{div-add-mod', div-eq_of_lt-le}
use native.Mathlib.Omega.{arith}
use native.Mathlib.Decide.{dec_lt}
use lib.Dec.{lit<}
use lib.ListN.{get_or, length, length-append, get_or-append}
use lib.Seq.{get_or-append-add}
use Rattle.rounds.specs.Field.{Below}
use Rattle.sponge.proofs.BelowLaws.{append-below}
use Rattle.rows.specs.Rows.{joined}

-- words below P stay so
pub joined-below : (n : ℕ) (lists : ℕ → List ℕ) → ((i : ℕ) → Below (lists i)) → Below (joined n lists)
unfolding joined
joined-below zero lists h = λ k. lit< tt
joined-below (suc n) lists h = append-below (joined n lists) (lists n) (joined-below n lists h) (h n)

-- n lists of w words each
module _ (lists : ℕ → List ℕ) (w : ℕ) where
  -- n times w words in all
  pub joined_length : (n : ℕ) → ((i : ℕ) → i < n → length (lists i) ≡ w) → length (joined n lists) ≡ n * w
  unfolding joined
  joined_length zero h = omega arith
  joined_length (suc n) h = omega (arith, length-append (joined n lists) (lists n), joined_length n (λ i l. h i (omega arith)), h n (omega arith))

  -- word k stands in list k / w at place k % w
  pub joined_at : (n : ℕ) → ((i : ℕ) → i < n → length (lists i) ≡ w)
      → (k : ℕ) → k < n * w → get_or (joined n lists) k 0 ≡ get_or (lists (k / w)) (k % w) 0
  unfolding joined
  joined_at zero h k l = absurd (omega arith)
  joined_at (suc n) h k l = cases (λ b. joined_at n (λ i l. h i (omega arith)) k b) (dec_lt k (n * w))
    where
      long : length (joined n lists) ≡ n * w
      long = joined_length n (λ i b. h i (omega arith))

      cases : (k < n * w → get_or (joined n lists) k 0 ≡ get_or (lists (k / w)) (k % w) 0) → Dec (k < n * w)
          → get_or (joined n lists ++ lists n) k 0 ≡ get_or (lists (k / w)) (k % w) 0
      cases before (yes b) = get_or-append (joined n lists) (lists n) 0 k (omega (arith, long)) ∙ before b
      cases before (no b) =
          let e : k / w ≡ n = div-eq_of_lt-le {k = n} w {m = k} (omega arith) (omega arith) in
          let m : k ≡ length (joined n lists) + k % w = omega (arith, long, div-add-mod' k w, ap (λ (q : ℕ). q * w) e) in
          ap (λ (j : ℕ). get_or (joined n lists ++ lists n) j 0) m
          ∙ get_or-append-add (joined n lists) (lists n) (k % w) 0
          ∙ ap (λ (q : ℕ). get_or (lists q) (k % w) 0) (sym e)
