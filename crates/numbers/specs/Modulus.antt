-- The modulus of the field, what undoes a product by 2^64, and what undoes a seventh power.
use Rattle.std.specs.Prelude.{ℕ}

-- 2^64 - 2^32 + 1
abbrev pub P : ℕ
P = 18446744069414584321

-- P - 2^32: modulo P it undoes a product by 2^64
abbrev pub r_inv : ℕ
r_inv = 18446744065119617025

-- modulo P the power by it undoes a seventh power: 7 times it is 4 * (P - 1) + 1
abbrev pub root_exponent : ℕ
root_exponent = 10540996611094048183
