-- Functions on bytes that undo each other do so on words, byte by byte.
-- Assumes nothing.
use mathlib.Core.Path.{◌≡◌, ap, ◌∙◌}
use Prim.Native.Nat.{ℕ, ◌*◌, ◌/◌, ◌%◌, ◌^◌, ◌<◌}
use native.Mathlib.Nat.{div-one, mod-lt, mul-one, zero-add}
use lib.Dec.{lit<}
use Rattle.numbers.proofs.Lists.{total-same}
use Rattle.rounds.specs.Round.{bytewise}
use Rattle.rounds.proofs.DigitLaws.{digit-number, number-digits, total-number}

-- a word's byte k is a byte
pub byte-below : (w k : ℕ) → w / 256 ^ k % 256 < 256
byte-below w k = mod-lt (w / 256 ^ k) (lit< tt)

-- a function from bytes to bytes
abbrev pub Bytes : (ℕ → ℕ) → Type 0
Bytes g = (b : ℕ) → b < 256 → g b < 256

-- byte k of a word taken byte by byte
pub byte-bytewise : {g : ℕ → ℕ} → Bytes g → (w k : ℕ) → k < 8 → bytewise g w / 256 ^ k % 256 ≡ g (w / 256 ^ k % 256)
unfolding bytewise
byte-bytewise {g} h w k k< =
    ap (λ (n : ℕ). n / 256 ^ k % 256) (total-number 256 8 0 (λ j. g (w / 256 ^ j % 256)) ∙ mul-one _)
    ∙ digit-number 256 8 0 (λ j. h (w / 256 ^ j % 256) (byte-below w j)) k k<
    ∙ ap (λ (j : ℕ). g (w / 256 ^ j % 256)) (zero-add k)

-- a word put together from its bytes
pub bytewise-whole : (w : ℕ) → w < 2 ^ 64 → bytewise (λ b. b) w ≡ w
unfolding bytewise
bytewise-whole w h =
    total-number 256 8 0 (λ j. w / 256 ^ j % 256) ∙ mul-one _ ∙ number-digits 256 8 0 w h ∙ div-one w

-- what f undoes at every byte it undoes at every word
pub bytewise-undone : (f : ℕ → ℕ) {g : ℕ → ℕ} → Bytes g → ((b : ℕ) → b < 256 → f (g b) ≡ b) → (w : ℕ) → w < 2 ^ 64 → bytewise f (bytewise g w) ≡ w
unfolding bytewise
bytewise-undone f {g} h e w w< =
    total-same 8 0
    (λ k low high.
    ap (λ (b : ℕ). f b * 256 ^ k) (byte-bytewise h w k (rw zero-add at high))
    ∙ ap (λ (b : ℕ). b * 256 ^ k) (e (w / 256 ^ k % 256) (byte-below w k)))
    ∙ bytewise-whole w w<
