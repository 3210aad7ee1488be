-- The way back: each round and the permutation undone, step by step, the plain way.
use Rattle.std.specs.Prelude.{cond, List, ℕ, zero, suc, ◌+◌, ◌-◌, ◌%◌, ◌^◌, ltb, get_or}
use Rattle.numbers.specs.Lists.{tab}
use Rattle.numbers.specs.Modulus.{root_exponent}
use Rattle.rounds.specs.Constants.{inv_mds_column}
use Rattle.rounds.specs.Field.{power, sub}
use Rattle.rounds.specs.Round.{bytewise, circulant, constant}

-- entry b of `INV_LOOKUP_TABLE`: modulo the prime 257 the power by 171 undoes a cube, because 3 * 171 is 2 * 256 + 1
unfoldable pub inv_lookup_byte : ℕ → ℕ
inv_lookup_byte b = ((b + 1) ^ 171 - 1) % 257

-- words 0 to 3: each byte of the raw word is looked up
unfoldable pub inv_lookup : ℕ → ℕ
inv_lookup w = bytewise inv_lookup_byte w

-- words 4 to 15: the seventh root
unfoldable pub inv_sbox : (i word : ℕ) → ℕ
inv_sbox i w = cond (ltb i 4) (inv_lookup w) (power w root_exponent)

unfoldable pub inv_sbox_layer : List ℕ → List ℕ
inv_sbox_layer s = tab 16 0 (λ i. inv_sbox i (get_or s i 0))

unfoldable pub subtract_constants : (i : ℕ) → List ℕ → List ℕ
subtract_constants i s = tab 16 0 (λ r. sub (get_or s r 0) (constant i r))

-- the layers of round i undone, the last first
unfoldable pub inv_round : (i : ℕ) → List ℕ → List ℕ
inv_round i s = inv_sbox_layer (circulant inv_mds_column (subtract_constants i s))

-- the first n rounds undone, the last first
unfoldable pub inv_rounds : (n : ℕ) → List ℕ → List ℕ
inv_rounds zero s = s
inv_rounds (suc n) s = inv_rounds n (inv_round n s)

-- rounds 4 down to 0
unfoldable pub inv_permuted : List ℕ → List ℕ
inv_permuted s = inv_rounds 5 s
