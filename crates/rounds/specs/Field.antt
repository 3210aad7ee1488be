-- The field of P on raw words: an element of value v is held as the word v * 2 ^ 64 mod P.
use Rattle.std.specs.Prelude.{List, ℕ, ◌+◌, ◌-◌, ◌*◌, ◌%◌, ◌^◌, ◌<◌, get_or}
use Rattle.numbers.specs.Modulus.{P, r_inv}

-- the raw word of a value
unfoldable pub raw_of : (value : ℕ) → ℕ
raw_of v = v * 2 ^ 64 % P

-- the value of a raw word: r_inv is 2 ^ (-64)
unfoldable pub value_of : (raw : ℕ) → ℕ
value_of a = a * r_inv % P

unfoldable pub add : (a b : ℕ) → ℕ
add a b = (a + b) % P

unfoldable pub sub : (a b : ℕ) → ℕ
sub a b = (a + (P - b)) % P

-- the one word below P that is congruent to a * b * 2 ^ (-64)
unfoldable pub mul : (a b : ℕ) → ℕ
mul a b = a * b * r_inv % P

-- the raw word of the e-th power of a's value
unfoldable pub power : (a e : ℕ) → ℕ
power a e = raw_of (value_of a ^ e)

-- every word of a list is below P; past its end stands 0
abbrev pub Below : List ℕ → Type 0
Below s = (k : ℕ) → get_or s k 0 < P
