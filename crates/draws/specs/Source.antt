-- The loop of the source's `sample_indices`, which has no allowance and may never end.
use Rattle.std.specs.Prelude.{List, [], ◌∷◌, ◌≡◌, ℕ, suc}
use Rattle.rounds.specs.Field.{value_of}
use Rattle.sponge.specs.declared.Tip5.{Tip5}
use Rattle.sponge.specs.Sponge.{rate, squeezed}
use Rattle.draws.specs.Draw.{Draw, index_of, nothing, skipped}

-- the loop ends, and comes to a draw: with this many indices still wanted, this rest of the buffer, and this sponge
pub data Loop (bound : ℕ) : (wanted : ℕ) (buffer : List ℕ) → Tip5 → Draw → Type 0 where
  -- no index is wanted any more
  full : {buffer : List ℕ} {s : Tip5} → Loop bound 0 buffer s (nothing s)
  -- the buffer is used up: it is filled by a squeeze
  refill : {n : ℕ} {s : Tip5} {d : Draw} → Loop bound (suc n) (rate s) (squeezed s) d
      → Loop bound (suc n) [] s (record { indices = d.indices; squeezes = suc d.squeezes; sponge = d.sponge })
  -- an element of value P - 1
  skip : {n w : ℕ} {ws : List ℕ} {s : Tip5} {d : Draw} → value_of w ≡ skipped → Loop bound (suc n) ws s d → Loop bound (suc n) (w ∷ ws) s d
  -- any other element
  push : {n w : ℕ} {ws : List ℕ} {s : Tip5} {d : Draw} → (value_of w ≡ skipped → ⊥) → Loop bound n ws s d
      → Loop bound (suc n) (w ∷ ws) s (record { indices = index_of bound (value_of w) ∷ d.indices; squeezes = d.squeezes; sponge = d.sponge })

-- the source begins with an empty buffer
abbrev pub SourceDraw : (bound wanted : ℕ) → Tip5 → Draw → Type 0
SourceDraw bound wanted s d = Loop bound wanted [] s d
