-- Four words to a power, side by side. No part of the definition of a round.
use Rattle.std.specs.Prelude.{List, ℕ, get_or}
use Rattle.numbers.specs.Lists.{tab}
use Rattle.rounds.specs.Field.{power}

unfoldable pub powers : (exponent : ℕ) → List ℕ → List ℕ
powers e a = tab 4 0 (λ k. power (get_or a k 0) e)
