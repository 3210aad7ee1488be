-- A slice that is filled from the front.
use Rattle.std.specs.Prelude.{List, ℕ, length, take}
use Rattle.draws.specs.Answers.{in_front}

-- as many of the indices as have room
abbrev pub fitting : (indices before : List ℕ) → List ℕ
fitting indices before = take (length before) indices

-- how many are put, and the slice with them in front
abbrev pub filled : (indices before : List ℕ) → ℕ × List ℕ
filled indices before = (length (fitting indices before), in_front (fitting indices before) before)
