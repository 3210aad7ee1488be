-- The first column of the circulant matrix.
use Rattle.std.specs.Prelude.{ℕ, List, [], ◌∷◌}

-- SHA-256 of the four bytes "Tip5", in chunks of 16 bits with the lowest byte first
abbrev pub mds_column : List ℕ
mds_column = 61402 ∷ 1108 ∷ 28750 ∷ 33823 ∷ 7454 ∷ 43244 ∷ 53865 ∷ 12034 ∷ 56951 ∷ 27521 ∷ 41351 ∷ 40901 ∷ 12021 ∷ 59689 ∷ 26798 ∷ 17845 ∷ []
