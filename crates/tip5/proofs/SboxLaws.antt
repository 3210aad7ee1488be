-- The s-box and its inverse word by word: words 0 to 3 by a table of bytes, the others by a power.
-- Assumes nothing.
use mathlib.Core.List.{List}
use mathlib.Core.Path.{◌≡◌, ap, sym, ◌∙◌}
use Prim.Native.Nat.{ℕ, ◌*◌, ◌/◌, ◌%◌, ◌^◌, ◌≤◌, ◌<◌}
use native.Mathlib.Nat.{mod-lt}
use borrow.Author.Tests.{le-ltb, lt-ltb}
use lib.Dec.{lit<}
use lib.ListN.{get_or}
use Rattle.numbers.specs.Fill.{Filled}
use Rattle.numbers.specs.Modulus.{root_exponent}
use Rattle.numbers.proofs.Fill.{filled-same}
use Rattle.numbers.proofs.Lists.{total-same}
use Rattle.rounds.specs.Field.{power}
use Rattle.rounds.specs.Inverse.{inv_lookup, inv_lookup_byte, inv_sbox}
use Rattle.rounds.specs.InverseTables.{inv_lookup_table}
use Rattle.rounds.specs.Round.{bytewise, lookup, sbox}
use Rattle.tip5.proofs.TableLaws.{entry-read}

pub sbox-lookup : {i : ℕ} (w : ℕ) → i < 4 → sbox i w ≡ lookup w
unfolding sbox
sbox-lookup w h = simp (lt-ltb _ _ h)

pub sbox-power : {i : ℕ} (w : ℕ) → 4 ≤ i → sbox i w ≡ power w 7
unfolding sbox
sbox-power w h = simp (le-ltb _ _ h)

-- the same of the inverse

pub inv_sbox-root : {i : ℕ} (w : ℕ) → 4 ≤ i → inv_sbox i w ≡ power w root_exponent
unfolding inv_sbox
inv_sbox-root w h = simp (le-ltb _ _ h)

-- only the answers at bytes count
bytewise-same : {f g : ℕ → ℕ} (w : ℕ) → ((b : ℕ) → b < 256 → f b ≡ g b) → bytewise f w ≡ bytewise g w
unfolding bytewise
bytewise-same {f} {g} w h =
    total-same 8 0 {f = λ k. f (w / 256 ^ k % 256) * 256 ^ k} {g = λ k. g (w / 256 ^ k % 256) * 256 ^ k}
    (λ k l u. ap (λ (b : ℕ). b * 256 ^ k) (h (w / 256 ^ k % 256) (mod-lt _ (lit< tt))))

-- words 0 to 3 of a list that were looked up in a table of the rule
pub inv_sbox-looked-up : {table out : List ℕ} (s : List ℕ) → table ≡ inv_lookup_table
    → Filled 16 (λ k. bytewise (λ b. get_or table b 0) (get_or s k 0)) 4 out → Filled 16 (λ k. inv_sbox k (get_or s k 0)) 4 out
unfolding inv_lookup_table inv_sbox inv_lookup
inv_sbox-looked-up s e h = filled-same h λ k l. bytewise-same _ (λ b m. entry-read 256 inv_lookup_byte e b m) ∙ sym (simp (lt-ltb _ _ l))
