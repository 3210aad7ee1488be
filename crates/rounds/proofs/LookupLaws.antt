-- The laws of the two lookups: they undo each other at every byte, hence at every word, and a word below P stays below P.
-- Each fact on bytes is one computed test over all of them.
-- Assumes nothing.
use mathlib.Core.Path.{◌≡◌, refl}
use Prim.Native.Nat.{ℕ, ◌^◌, ◌<◌}
use lib.Dec.{T, eqb, eqb→eq, ltb, ltb→lt}
use Rattle.numbers.specs.Modulus.{P}
use Rattle.numbers.proofs.Table.{each, each-at}
use Rattle.rounds.specs.Inverse.{inv_lookup, inv_lookup_byte}
use Rattle.rounds.specs.Round.{lookup, lookup_byte}
use Rattle.rounds.proofs.BytewiseBelow.{Ends, bytewise-below, ends-bytes}
use Rattle.rounds.proofs.BytewiseUndone.{Bytes, bytewise-undone}

-- Bytes

-- 0 to 0, and 255 alone to 255, by computation
ends-computed : {f : ℕ → ℕ} → f 0 ≡ 0 → f 255 ≡ 255 → T (each (λ b. ltb (f b) 255) 255 0) → Ends f
ends-computed {f} e₀ e₂₅₅ t =
    record { lowest = e₀; highest = e₂₅₅; between = λ b h. ltb→lt (f b) 255 (each-at (λ k. ltb (f k) 255) 255 t b h) }

lookup_byte-ends : Ends lookup_byte
unfolding lookup_byte
lookup_byte-ends = ends-computed refl refl tt

inv_lookup_byte-ends : Ends inv_lookup_byte
unfolding inv_lookup_byte
inv_lookup_byte-ends = ends-computed refl refl tt

pub lookup_byte-below : Bytes lookup_byte
lookup_byte-below = ends-bytes lookup_byte-ends

pub inv_lookup_byte-below : Bytes inv_lookup_byte
inv_lookup_byte-below = ends-bytes inv_lookup_byte-ends

-- one undoes the other at every byte, by computation
undone-computed : (f g : ℕ → ℕ) → T (each (λ b. eqb (f (g b)) b) 256 0) → (b : ℕ) → b < 256 → f (g b) ≡ b
undone-computed f g t b h = eqb→eq (f (g b)) b (each-at (λ k. eqb (f (g k)) k) 256 t b h)

pub inv_lookup_byte-lookup_byte : (b : ℕ) → b < 256 → inv_lookup_byte (lookup_byte b) ≡ b
unfolding lookup_byte inv_lookup_byte
inv_lookup_byte-lookup_byte = undone-computed inv_lookup_byte lookup_byte tt

pub lookup_byte-inv_lookup_byte : (b : ℕ) → b < 256 → lookup_byte (inv_lookup_byte b) ≡ b
unfolding lookup_byte inv_lookup_byte
lookup_byte-inv_lookup_byte = undone-computed lookup_byte inv_lookup_byte tt

-- Words

pub lookup-below : {w : ℕ} → w < P → lookup w < P
unfolding lookup
lookup-below = bytewise-below lookup_byte-ends

pub inv_lookup-below : {w : ℕ} → w < P → inv_lookup w < P
unfolding inv_lookup
inv_lookup-below = bytewise-below inv_lookup_byte-ends

pub inv_lookup-lookup : (w : ℕ) → w < 2 ^ 64 → inv_lookup (lookup w) ≡ w
unfolding lookup inv_lookup
inv_lookup-lookup = bytewise-undone inv_lookup_byte lookup_byte-below inv_lookup_byte-lookup_byte

pub lookup-inv_lookup : (w : ℕ) → w < 2 ^ 64 → lookup (inv_lookup w) ≡ w
unfolding lookup inv_lookup
lookup-inv_lookup = bytewise-undone lookup_byte inv_lookup_byte-below lookup_byte-inv_lookup_byte
