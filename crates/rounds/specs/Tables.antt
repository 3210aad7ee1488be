-- The tables that the fast rounds read.
use Rattle.std.specs.Prelude.{List, ℕ, get_or}
use Rattle.numbers.specs.Lists.{tab}
use Rattle.rounds.specs.Constants.{round_constants}
use Rattle.rounds.specs.Field.{raw_of}
use Rattle.rounds.specs.Round.{lookup_byte}

-- the cube rule at every byte
unfoldable pub lookup_table : List ℕ
lookup_table = tab 256 0 lookup_byte

-- the raw word of every round constant
unfoldable pub raw_constants : List ℕ
raw_constants = tab 80 0 (λ k. raw_of (get_or round_constants k 0))
