-- Draws: indices out of squeezed tens.
use Rattle.std.specs.Prelude.{cond, List, [], ◌∷◌, ◌++◌, ℕ, zero, suc, ◌+◌, ◌-◌, ◌%◌, ◌^◌, eqb, length, take}
use Rattle.numbers.specs.Modulus.{P}
use Rattle.rounds.specs.Field.{value_of}
use Rattle.sponge.specs.declared.Tip5.{Tip5}
use Rattle.sponge.specs.Sponge.{rate, squeezed}

-- the value that draws nothing: P - 1
abbrev pub skipped : ℕ
skipped = P - 1

-- the index of a value: its low 32 bits, modulo the bound
unfoldable pub index_of : (bound value : ℕ) → ℕ
index_of bound v = v % 2 ^ 32 % bound

-- what a value draws: nothing, or one index
unfoldable pub drawn_from : (bound value : ℕ) → List ℕ
drawn_from bound v = cond (eqb v skipped) [] (index_of bound v ∷ [])

-- what raw words draw, in their order
unfoldable pub from_words : (bound : ℕ) (words : List ℕ) → List ℕ
from_words bound [] = []
from_words bound (w ∷ ws) = drawn_from bound (value_of w) ++ from_words bound ws

-- what a draw comes to: the indices in their order, the squeezes that it made, and the sponge after them
pub record Draw : Type 0 where
  pub indices : List ℕ
  pub squeezes : ℕ
  pub sponge : Tip5

-- no squeeze
abbrev pub nothing : Tip5 → Draw
nothing s = record { indices = []; squeezes = 0; sponge = s }

-- one squeeze: what is left of its ten once nothing more is wanted is dropped
unfoldable pub from_ten : (bound wanted : ℕ) → Tip5 → Draw
from_ten bound wanted s = record { indices = take wanted (from_words bound (rate s)); squeezes = 1; sponge = squeezed s }

-- a draw, and the draw that goes on from its sponge
abbrev pub joined : Draw → Draw → Draw
joined d e = record { indices = d.indices ++ e.indices; squeezes = d.squeezes + e.squeezes; sponge = e.sponge }

-- a squeeze only while indices are missing and the allowance is not spent
unfoldable pub draw : (bound allowance wanted : ℕ) → Tip5 → Draw
draw bound zero wanted s = nothing s
draw bound (suc a) zero s = nothing s
draw bound (suc a) (suc n) s =
    let d = from_ten bound (suc n) s in
    joined d (draw bound a (suc n - length d.indices) d.sponge)
