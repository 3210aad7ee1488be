-- The sponge: its two starts, absorb, squeeze and the ways back. Each takes and answers the whole record.
use Rattle.std.specs.Prelude.{List, ◌++◌, ℕ, drop, replicate, take}
use Rattle.rounds.specs.Inverse.{inv_permuted}
use Rattle.rounds.specs.Round.{permuted}
use Rattle.sponge.specs.declared.Domain.{Domain}
use Rattle.sponge.specs.declared.Domain.TheVariants.{VariableLength, FixedLength}
use Rattle.sponge.specs.declared.Tip5.{Tip5}

-- the raw word of value 1
abbrev pub one : ℕ
one = 4294967295

-- all zero, or ONE in words 10 to 15
unfoldable pub start : Domain → Tip5
start VariableLength = record { state = replicate 16 0 }
start FixedLength = record { state = replicate 10 0 ++ replicate 6 one }

-- the sponge after one permutation
unfoldable pub permute : Tip5 → Tip5
permute s = record { state = permuted s.state }

-- the sponge before one permutation
unfoldable pub unpermute : Tip5 → Tip5
unpermute s = record { state = inv_permuted s.state }

-- words 0 to 9
unfoldable pub rate : Tip5 → List ℕ
rate s = take 10 s.state

-- words 0 to 9 are overwritten, words 10 to 15 stay
unfoldable pub overwrite : (ten : List ℕ) → Tip5 → Tip5
overwrite ten s = record { state = ten ++ drop 10 s.state }

-- absorb overwrites words 0 to 9 and permutes
unfoldable pub absorbed : (ten : List ℕ) → Tip5 → Tip5
absorbed ten s = permute (overwrite ten s)

-- squeeze hands out words 0 to 9 as they were, which is `rate`, then permutes
unfoldable pub squeezed : Tip5 → Tip5
squeezed s = permute s

-- a squeeze walked back
unfoldable pub unsqueezed : Tip5 → Tip5
unsqueezed s = unpermute s

-- an absorb walked back: the saved words are put back as given
unfoldable pub unabsorbed : (saved : List ℕ) → Tip5 → Tip5
unabsorbed saved s = overwrite saved (unpermute s)
