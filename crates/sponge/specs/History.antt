-- Steps: what one call or a list of calls does to a sponge, permutation by permutation.
use Rattle.std.specs.Prelude.{List, [], ◌∷◌, map, ℕ}
use Rattle.sponge.specs.declared.Tip5.{Tip5}
use Rattle.sponge.specs.Padding.{padded}
use Rattle.sponge.specs.Sponge.{absorbed, squeezed}

-- a step makes one permutation: it is a squeeze or the absorb of a ten
pub data Step : Type 0 where
  squeeze : Step
  absorb : (ten : List ℕ) → Step

-- the sponge after a step
unfoldable pub after : Step → Tip5 → Tip5
after squeeze s = squeezed s
after (absorb ten) s = absorbed ten s

-- the sponge after a list of steps, made in the list's order
unfoldable pub run : List Step → Tip5 → Tip5
run [] s = s
run (t ∷ ts) s = run ts (after t s)

-- the steps of a padded absorb: every ten is one
unfoldable pub padded_steps : (input : List ℕ) → List Step
padded_steps input = map absorb (padded input)
