-- Bit fields of a list of bytes, the most significant bit first.
use Rattle.std.specs.Prelude.{List, [], ◌∷◌, ℕ, ◌+◌, ◌-◌, ◌*◌, ◌/◌, ◌%◌, ◌^◌, length}

-- the bytes as one number, the first of them the most significant
unfoldable pub number : (bytes : List ℕ) → ℕ
number [] = 0
number (b ∷ bs) = b * 256 ^ length bs + number bs

-- the number of the bits offset, offset + 1, .., as many as the width says; bit 0 is the highest of the first byte
unfoldable pub field : (bytes : List ℕ) (offset width : ℕ) → ℕ
field bytes offset width = number bytes / 2 ^ (8 * length bytes - (offset + width)) % 2 ^ width
