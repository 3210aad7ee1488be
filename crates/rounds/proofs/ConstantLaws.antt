-- The raw round constants: the bound that the repair of the fast matrix layer rests on, tested once over the table.
-- Assumes nothing.
use mathlib.Core.Bool.{Bool}
use Prim.Native.Nat.{ℕ, ◌+◌, ◌*◌, ◌≤◌, ◌<◌}
use native.Mathlib.Omega.{arith}
use lib.Dec.{leb, leb→le}
use lib.ListN.{get_or}
use Rattle.numbers.proofs.Table.{each-at}
use Rattle.rounds.specs.Constants.{round_constants}
use Rattle.rounds.specs.Field.{raw_of}
use Rattle.rounds.specs.Round.{constant}

-- P - 2 ^ 32 + 1
abbrev pub largest_mended : ℕ
largest_mended = 18446744065119617026

small-enough : ℕ → Bool
small-enough k = leb (raw_of (get_or round_constants k 0)) largest_mended

pub constant-bound : {i r : ℕ} → i < 5 → r < 16 → constant i r ≤ largest_mended
unfolding constant raw_of round_constants small-enough
constant-bound {i} {r} hi hr = leb→le _ _ (each-at small-enough 80 tt (16 * i + r) (omega arith))
