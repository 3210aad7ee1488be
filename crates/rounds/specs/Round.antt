-- One round of Tip5 and the permutation, the plain way. A state is a list of sixteen raw words.
use Rattle.std.specs.Prelude.{cond, List, ℕ, zero, suc, ◌+◌, ◌-◌, ◌*◌, ◌/◌, ◌%◌, ◌^◌, ltb, get_or}
use Rattle.numbers.specs.Circulant.{row_sum}
use Rattle.numbers.specs.Lists.{tab, total}
use Rattle.numbers.specs.Modulus.{P}
use Rattle.matrix.specs.Column.{mds_column}
use Rattle.rounds.specs.Constants.{round_constants}
use Rattle.rounds.specs.Field.{add, power, raw_of}

-- entry b of `LOOKUP_TABLE`: the cube rule
unfoldable pub lookup_byte : ℕ → ℕ
lookup_byte b = ((b + 1) ^ 3 - 1) % 257

-- a word with f at each of its eight bytes, the lowest first
unfoldable pub bytewise : (f : ℕ → ℕ) (word : ℕ) → ℕ
bytewise f w = total 8 0 (λ k. f (w / 256 ^ k % 256) * 256 ^ k)

-- words 0 to 3: each byte of the raw word is looked up
unfoldable pub lookup : ℕ → ℕ
lookup w = bytewise lookup_byte w

-- words 4 to 15: the seventh power
unfoldable pub sbox : (i word : ℕ) → ℕ
sbox i w = cond (ltb i 4) (lookup w) (power w 7)

unfoldable pub sbox_layer : List ℕ → List ℕ
sbox_layer s = tab 16 0 (λ i. sbox i (get_or s i 0))

-- the circulant of a column times the state, modulo P
unfoldable pub circulant : (column : List ℕ) → List ℕ → List ℕ
circulant column s = tab 16 0 (λ r. row_sum column s r % P)

-- the raw word that round i adds to word r
unfoldable pub constant : (i r : ℕ) → ℕ
constant i r = raw_of (get_or round_constants (16 * i + r) 0)

unfoldable pub add_constants : (i : ℕ) → List ℕ → List ℕ
add_constants i s = tab 16 0 (λ r. add (get_or s r 0) (constant i r))

unfoldable pub round : (i : ℕ) → List ℕ → List ℕ
round i s = add_constants i (circulant mds_column (sbox_layer s))

-- the state after the first n rounds
unfoldable pub rounds : (n : ℕ) → List ℕ → List ℕ
rounds zero s = s
rounds (suc n) s = round n (rounds n s)

-- five rounds, 0 to 4
unfoldable pub permuted : List ℕ → List ℕ
permuted s = rounds 5 s
