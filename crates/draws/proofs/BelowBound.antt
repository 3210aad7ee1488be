-- Every index that is drawn is below the bound.
-- Assumes nothing.
use mathlib.Core.Bool.{Bool, true, false, cond}
use mathlib.Core.List.{List, [], ◌∷◌, ◌++◌}
use mathlib.Core.Path.{◌≡◌, refl}
use Prim.Native.Nat.{ℕ, zero, suc, ◌-◌, ◌%◌, ◌^◌, ◌<◌}
use native.Mathlib.Nat.{mod-lt}
use lib.Dec.{eqb}
use lib.ListN.{length, take}
use Rattle.rounds.specs.Field.{value_of}
use Rattle.std.specs.Prelude.{Ok, Err}
use Rattle.refusals.specs.Judge.{Judgement, unless}
use Rattle.sponge.specs.declared.Tip5.{Tip5}
use Rattle.sponge.specs.Sponge.{rate, squeezed}
use Rattle.draws.specs.Answers.{draw_refusal, drawn}
use Rattle.draws.specs.Draw.{draw, drawn_from, from_ten, from_words, index_of, nothing, skipped}
use Rattle.draws.proofs.AnswerLaws.{accepted-draw}
use Rattle.draws.proofs.BoundLaws.{power-positive}

-- every entry is below the bound
abbrev pub AllUnder : (bound : ℕ) → List ℕ → Type 0
AllUnder bound [] = Unit
AllUnder bound (x ∷ xs) = (x < bound) × AllUnder bound xs

-- Lists

under-append : (bound : ℕ) (xs ys : List ℕ) → AllUnder bound xs → AllUnder bound ys → AllUnder bound (xs ++ ys)
under-append bound [] ys hx hy = hy
under-append bound (x ∷ xs) ys hx hy = (hx.0, under-append bound xs ys hx.1 hy)

under-take : (bound n : ℕ) (xs : List ℕ) → AllUnder bound xs → AllUnder bound (take n xs)
under-take bound zero xs h = tt
under-take bound (suc n) [] h = tt
under-take bound (suc n) (x ∷ xs) h = (h.0, under-take bound n xs h.1)

-- Draws

pub index_of-under : {bound : ℕ} (v : ℕ) → 0 < bound → index_of bound v < bound
unfolding index_of
index_of-under v h = mod-lt (v % 2 ^ 32) h

drawn_from-under : (bound v : ℕ) → 0 < bound → AllUnder bound (drawn_from bound v)
unfolding drawn_from
drawn_from-under bound v h = go (eqb v skipped)
  where
    go : (b : Bool) → AllUnder bound (cond b [] (index_of bound v ∷ []))
    go true = tt
    go false = (index_of-under v h, tt)

from_words-under : (bound : ℕ) (ws : List ℕ) → 0 < bound → AllUnder bound (from_words bound ws)
unfolding from_words
from_words-under bound [] h = tt
from_words-under bound (w ∷ ws) h = under-append bound (drawn_from bound (value_of w)) (from_words bound ws) (drawn_from-under bound (value_of w) h) (from_words-under bound ws h)

pub draw-under : (bound a n : ℕ) (s : Tip5) → 0 < bound → AllUnder bound (draw bound a n s).indices
unfolding draw from_ten
draw-under bound zero n s h = tt
draw-under bound (suc a) zero s h = tt
draw-under bound (suc a) (suc n) s h =
    let here = take (suc n) (from_words bound (rate s)) in
    let rest = draw bound a (suc n - length here) (squeezed s) in
    under-append bound here rest.indices (under-take bound (suc n) (from_words bound (rate s)) (from_words-under bound (rate s) h)) (draw-under bound a (suc n - length here) (squeezed s) h)

-- of a call, refused or not
pub drawn-under : (s : Tip5) (bound allowance wanted : ℕ) → AllUnder bound (drawn s bound allowance wanted).indices
drawn-under s bound allowance wanted = go (draw_refusal s bound) refl
  where
    go : (j : Judgement) → draw_refusal s bound ≡ j → AllUnder bound (unless j (draw bound allowance wanted s) (nothing s)).indices
    go (Ok done) e = draw-under bound allowance wanted s (power-positive (accepted-draw s bound allowance e).0)
    go (Err refusal) e = tt
