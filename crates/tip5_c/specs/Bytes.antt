-- Sixteen words as 128 bytes, one word after another, each lowest byte first.
use Rattle.std.specs.Prelude.{List, ℕ, ◌+◌, ◌*◌, ◌/◌, ◌%◌, ◌^◌, get_or}
use Rattle.numbers.specs.Lists.{tab, total}

-- word k of a list of bytes
unfoldable pub word_at : (bytes : List ℕ) (k : ℕ) → ℕ
word_at bytes k = total 8 0 (λ j. get_or bytes (8 * k + j) 0 * 256 ^ j)

unfoldable pub words_of : (bytes : List ℕ) → List ℕ
words_of bytes = tab 16 0 (λ k. word_at bytes k)

-- byte i of a list of words
unfoldable pub byte_at : (words : List ℕ) (i : ℕ) → ℕ
byte_at words i = get_or words (i / 8) 0 / 256 ^ (i % 8) % 256

unfoldable pub bytes_of : (words : List ℕ) → List ℕ
bytes_of words = tab 128 0 (λ i. byte_at words i)
