-- What the record's type says of every sponge that a program holds.
-- Assumes nothing.
use mathlib.Core.List.{List}
use mathlib.Core.Path.{◌≡◌}
use lib.ListN.{length}
use mir.Val.{Val}
use denote.Laws.{Is}
use Rattle.sponge.specs.declared.Tip5.{Tip5}
use Rattle.sponge.specs.contracts.Tip5.{the_row}

-- it has sixteen words
pub sixteen : (s : Tip5) (vs : List Val) → Is the_row s vs → length s.state ≡ 16
sixteen s vs good = good.1.1.0.1.0.1
