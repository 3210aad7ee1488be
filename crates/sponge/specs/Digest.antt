-- Digests: words 0 to 4 of a sponge.
use Rattle.std.specs.Prelude.{List, ◌++◌, ℕ, take}
use Rattle.sponge.specs.declared.Domain.TheVariants.{VariableLength, FixedLength}
use Rattle.sponge.specs.declared.Tip5.{Tip5}
use Rattle.sponge.specs.History.{padded_steps, run}
use Rattle.sponge.specs.Sponge.{absorbed, start}

unfoldable pub digest : Tip5 → List ℕ
digest s = take 5 s.state

-- of ten words: the fixed start and one permutation
unfoldable pub digest_of_ten : List ℕ → List ℕ
digest_of_ten ten = digest (absorbed ten (start FixedLength))

-- of two digests: their ten words
unfoldable pub digest_of_pair : (left right : List ℕ) → List ℕ
digest_of_pair left right = digest_of_ten (left ++ right)

-- of words of any number: the padded input
unfoldable pub digest_of : List ℕ → List ℕ
digest_of input = digest (run (padded_steps input) (start VariableLength))
