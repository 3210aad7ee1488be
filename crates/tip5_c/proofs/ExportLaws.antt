-- What an export answers where there are not 128 bytes.
-- Assumes nothing.
use mathlib.Core.List.{List}
use mathlib.Core.Path.{◌≡◌}
use Prim.Native.Nat.{ℕ}
use borrow.Author.Tests.{ne_eqb}
use lib.ListN.{length}
use Rattle.refusals.specs.Number.{number}
use Rattle.tip5_c.specs.Export.{after, bytes_refusal}

-- the refusal's number and the bytes that the definition gives
abbrev pub Exported : (move : List ℕ → List ℕ) (before : List ℕ) (r : ℕ) (bytes : List ℕ) → Type 0
Exported move before r bytes = (r ≡ number (bytes_refusal before)) × (bytes ≡ after move before)

pub wrong-length : (move : List ℕ → List ℕ) (bytes : List ℕ) → (length bytes ≡ 128 → ⊥) → Exported move bytes 2 bytes
wrong-length move bytes h = (simp (ne_eqb _ _ h), simp (ne_eqb _ _ h))
