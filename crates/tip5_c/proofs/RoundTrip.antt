-- Words from bytes and bytes from words undo each other: sixteen words of a machine, 128 bytes.
-- Assumes nothing.
use mathlib.Core.List.{List}
use mathlib.Core.Path.{◌≡◌, ap, sym, ◌∙◌}
use Prim.Native.Nat.{ℕ, ◌+◌, ◌*◌, ◌/◌, ◌%◌, ◌^◌, ◌<◌}
use native.Mathlib.Nat.{mod-lt, mul-one}
use native.Mathlib.Omega.{arith}
use lib.Dec.{lit<}
use lib.ListN.{get_or, length}
use Rattle.numbers.proofs.Lists.{get_or-tab₀, tab-unique, total-same}
use Rattle.rounds.specs.Round.{bytewise}
use Rattle.rounds.proofs.BytewiseUndone.{bytewise-whole}
use Rattle.rounds.proofs.DigitLaws.{digit-number, total-number}
use Rattle.tip5_c.specs.Bytes.{byte_at, bytes_of, word_at, words_of}
use Rattle.tip5_c.proofs.WordLaws.{byte-of-word}

pub words-of-bytes-of : (words : List ℕ) → length words ≡ 16 → ((k : ℕ) → get_or words k 0 < 2 ^ 64) → words_of (bytes_of words) ≡ words
unfolding words_of bytes_of word_at bytewise
words-of-bytes-of words e below =
    tab-unique words (word_at (bytes_of words)) e
    (λ k k<. sym
    (total-same 8 0
    (λ j low high.
    ap (λ (b : ℕ). b * 256 ^ j) (get_or-tab₀ 128 (byte_at words) (8 * k + j) (omega arith) ∙ byte-of-word words k (omega arith)))
    ∙ bytewise-whole (get_or words k 0) (below k)))

pub bytes-of-words-of : (bytes : List ℕ) → length bytes ≡ 128 → ((i : ℕ) → get_or bytes i 0 < 256) → bytes_of (words_of bytes) ≡ bytes
unfolding words_of bytes_of word_at byte_at
bytes-of-words-of bytes e below =
    tab-unique bytes (byte_at (words_of bytes)) e
    (λ i i<. sym
    (ap (λ (w : ℕ). w / 256 ^ (i % 8) % 256)
    (get_or-tab₀ 16 (word_at bytes) (i / 8) (omega arith) ∙ total-number 256 8 0 (λ j. get_or bytes (8 * (i / 8) + j) 0) ∙ mul-one _)
    ∙ digit-number 256 8 0 (λ j. below (8 * (i / 8) + j)) (i % 8) (mod-lt i (lit< tt))
    ∙ ap (λ (n : ℕ). get_or bytes n 0) (omega arith)))
