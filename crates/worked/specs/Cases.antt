-- The worked cases that are marked to be proved, and the raw words of five values: what each definition gives beside what was worked by hand.
use Rattle.std.specs.Prelude.{List, [], ◌∷◌, map, ℕ, replicate}
use Rattle.numbers.specs.Modulus.{P}
use Rattle.matrix.specs.Column.{mds_column}
use Rattle.rounds.specs.Field.{add, raw_of}
use Rattle.rounds.specs.Round.{circulant, lookup, lookup_byte}
use Rattle.rounds.specs.Tables.{raw_constants}
use Rattle.tip5.specs.Reduced.{reduced}
use Rattle.draws.specs.Draw.{drawn_from}

pub record Case : Type 0 where
  pub given : List ℕ
  pub worked : List ℕ

-- sixteen times the same word
abbrev sixteen : ℕ → List ℕ
sixteen w = replicate 16 w

unfoldable pub table : List Case
table =
    -- the raw words of the values 0, 1, 2, 2 ^ 32 and P - 1
    record { given = map raw_of (0 ∷ 1 ∷ 2 ∷ 4294967296 ∷ 18446744069414584320 ∷ []); worked = 0 ∷ 4294967295 ∷ 8589934590 ∷ 18446744069414584320 ∷ 18446744065119617026 ∷ [] }
    -- lookup table: 0 to 0, 1 to 7, 254 to 248
    ∷ record { given = map lookup_byte (0 ∷ 1 ∷ 254 ∷ []); worked = 0 ∷ 7 ∷ 248 ∷ [] }
    -- a raw word looked up, byte by byte; ONE and raw P - 1 stay
    ∷ record { given = map lookup (0x0100000000000002 ∷ 4294967295 ∷ 18446744069414584320 ∷ []); worked = 0x070000000000001a ∷ 4294967295 ∷ 18446744069414584320 ∷ [] }
    -- the matrix on sixteen raw 1s, on sixteen raw P - 1, and on 1 in word 0 alone
    ∷ record { given = circulant mds_column (sixteen 1); worked = sixteen 524757 }
    ∷ record { given = circulant mds_column (sixteen 18446744069414584320); worked = sixteen 18446744069414059564 }
    ∷ record { given = circulant mds_column (1 ∷ replicate 15 0); worked = mds_column }
    -- a row sum of P reduces to raw P, and adding a constant to that gives the constant
    ∷ record { given = reduced P ∷ []; worked = P ∷ [] }
    ∷ record { given = map (add (reduced P)) raw_constants; worked = raw_constants }
    -- at bound 4 value P - 2 draws 3, P - 1 draws nothing, and 2 ^ 32 draws 0
    ∷ record { given = drawn_from 4 18446744069414584319; worked = 3 ∷ [] }
    ∷ record { given = drawn_from 4 18446744069414584320; worked = [] }
    ∷ record { given = drawn_from 4 4294967296; worked = 0 ∷ [] }
    ∷ []
