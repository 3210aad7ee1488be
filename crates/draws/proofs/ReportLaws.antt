-- What a call reports, as its number and both counts: the counts are those of the draw that it makes, whatever the number.
-- Assumes nothing.
use mathlib.Core.Bool.{Bool, true, false, cond}
use mathlib.Core.Path.{◌≡◌, refl}
use Prim.Native.Nat.{ℕ, ◌≤◌}
use native.Mathlib.Omega.{arith}
use borrow.Author.Tests.{ltb-false}
use lib.Dec.{ltb}
use lib.ListN.{length}
use Rattle.std.specs.Prelude.{Ok, Err}
use Rattle.refusals.specs.Judge.{Judgement, unless}
use Rattle.sponge.specs.declared.Tip5.{Tip5}
use Rattle.draws.specs.declared.error.DrawError.TheVariants.{AllowanceSpent}
use Rattle.draws.specs.Answers.{counted, draw_answer, draw_refusal, drawn, sample_indices}
use Rattle.draws.specs.Draw.{Draw, draw, nothing}
use Rattle.draws.proofs.DrawLaws.{draw-found}

pub reported : (s : Tip5) (bound a wanted : ℕ)
    → (counted wanted (sample_indices s bound a wanted).0).1 ≡ (length (drawn s bound a wanted).indices, (drawn s bound a wanted).squeezes)
reported s bound a wanted = go (draw_refusal s bound)
  where
    tested : (b : Bool) (d : Draw) → ltb (length d.indices) wanted ≡ b → length d.indices ≤ wanted
        → (counted wanted (cond b (Err (AllowanceSpent (length d.indices) d.squeezes)) (Ok d.squeezes))).1 ≡ (length d.indices, d.squeezes)
    tested true d t most = refl
    tested false d t most =
        let all : wanted ≡ length d.indices = omega (arith, ltb-false (length d.indices) wanted t) in
        λ i. (all i, d.squeezes)

    go : (j : Judgement) → (let d = unless j (draw bound a wanted s) (nothing s) in (counted wanted (draw_answer j wanted d)).1 ≡ (length d.indices, d.squeezes))
    go (Ok done) = let d = draw bound a wanted s in tested (ltb (length d.indices) wanted) d refl (draw-found bound a wanted s)
    go (Err refusal) = refl
