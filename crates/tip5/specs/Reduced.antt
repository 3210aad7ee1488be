-- The fast matrix layer's word: a row sum brought to one machine word, congruent to it, which may be P or more. No part of
-- the definition of a round.
use Rattle.std.specs.Prelude.{ℕ, ◌+◌, ◌*◌, ◌/◌, ◌%◌, ◌^◌}

-- what stands above 2 ^ 64 is folded down by 2 ^ 64 = 2 ^ 32 - 1, modulo P
unfoldable pub folded : ℕ → ℕ
folded n = n % 2 ^ 64 + n / 2 ^ 64 * 4294967295

-- the first fold may leave a carry, and the second none
unfoldable pub reduced : (row_sum : ℕ) → ℕ
reduced s = folded (folded s)
