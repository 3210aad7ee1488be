-- The tables that the inverse rounds read.
use Rattle.std.specs.Prelude.{List, ℕ, get_or}
use Rattle.numbers.specs.Lists.{tab}
use Rattle.rounds.specs.Constants.{inv_mds_column}
use Rattle.rounds.specs.Field.{raw_of}
use Rattle.rounds.specs.Inverse.{inv_lookup_byte}

-- the rule at every byte
unfoldable pub inv_lookup_table : List ℕ
inv_lookup_table = tab 256 0 inv_lookup_byte

-- the raw word of every entry of the inverse column
unfoldable pub raw_inv_column : List ℕ
raw_inv_column = tab 16 0 (λ k. raw_of (get_or inv_mds_column k 0))
