-- A loop that fills a list from the front, one entry a turn: none filled, one more, all; the same by another rule. A loop that copies
-- words to a place of a list, one a turn: one more.
-- Assumes nothing.
use mathlib.Core.List.{List}
use mathlib.Core.Path.{◌≡◌, sym, ap, ◌∙◌}
use Prim.Native.Nat.{ℕ, ◌+◌, ◌<◌}
use native.Mathlib.Numerals.{add-one}
use native.Mathlib.Omega.{arith}
use borrow.Author.Count.{below_more}
use lib.ListN.{length, get_or, set, length-set}
use lib.Seq.{get_or-set_same, get_or-set_other, paste, paste-suc}
use Rattle.numbers.specs.Fill.{Filled}
use Rattle.numbers.specs.Lists.{tab}
use Rattle.numbers.proofs.Lists.{tab-unique}

pub filled-none : {n : ℕ} {f : ℕ → ℕ} (out : List ℕ) → length out ≡ n → Filled n f 0 out
filled-none out h = record { within = omega arith; long = h; front = λ k lt. absurd (omega arith) }

pub filled-more : {n : ℕ} {f : ℕ → ℕ} {r : ℕ} {out : List ℕ} {v : ℕ} → Filled n f r out → r < n → v ≡ f r → Filled n f (r + 1) (set out r v)
filled-more {n} {f} {r} {out} {v} h lt e =
    record {
      within = omega arith;
      long = length-set out r v ∙ h.long;
      front = below_more _ _ (λ k l. get_or-set_other out r k v 0 (omega arith) ∙ h.front k l)
          (get_or-set_same out r v 0 (omega (arith, h.long)) ∙ e);
    }

pub filled-all : {n : ℕ} {f : ℕ → ℕ} {r : ℕ} {out : List ℕ} → Filled n f r out → r ≡ n → out ≡ tab n 0 f
filled-all {f = f} {out = out} h e = sym (tab-unique out f h.long (λ k l. h.front k (omega arith)))

pub filled-same : {n : ℕ} {f g : ℕ → ℕ} {r : ℕ} {out : List ℕ} → Filled n f r out → ((k : ℕ) → k < r → f k ≡ g k) → Filled n g r out
filled-same h e = record { within = h.within; long = h.long; front = λ k l. h.front k l ∙ e k l }

-- of the words s the first i were copied to place `at` of d: one word more
pub paste-more : (d : List ℕ) (at : ℕ) (s : List ℕ) (i : ℕ) {out : List ℕ} {j v : ℕ} → at + i < length d → i < length s
    → out ≡ paste d at s i → j ≡ at + i → v ≡ get_or s i 0 → set out j v ≡ paste d at s (i + 1)
paste-more d at s i room there same place word =
    (λ k. set (same k) (place k) (word k)) ∙ paste-suc d at s i 0 room there ∙ ap (paste d at s) (sym (add-one i))
