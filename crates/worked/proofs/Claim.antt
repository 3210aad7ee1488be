-- Every marked case is as it was worked by hand: one table, computed, under one claim.
-- Assumes nothing.
use mathlib.Core.List.{map}
use mathlib.Core.Path.{◌≡◌, refl}
use Rattle.numbers.specs.Circulant.{row_sum}
use Rattle.rounds.specs.Constants.{round_constants}
use Rattle.rounds.specs.Field.{add, raw_of}
use Rattle.rounds.specs.Round.{bytewise, circulant, lookup, lookup_byte}
use Rattle.rounds.specs.Tables.{raw_constants}
use Rattle.tip5.specs.Reduced.{folded, reduced}
use Rattle.draws.specs.Draw.{drawn_from, index_of}
use Rattle.worked.specs.Cases.{Case, table}

pub worked-cases : map (λ (c : Case). c.given) table ≡ map (λ (c : Case). c.worked) table
unfolding table lookup_byte bytewise lookup circulant row_sum folded reduced add raw_constants raw_of round_constants drawn_from index_of
worked-cases = refl
