-- The refusals of a draw, and the one that its answer comes to.
-- Assumes nothing.
use mathlib.Core.Bool.{Bool, true, false, cond}
use mathlib.Core.List.{[], ◌∷◌}
use mathlib.Core.Path.{◌≡◌, refl}
use Prim.Native.Nat.{ℕ}
use lib.Dec.{ltb}
use lib.ListN.{length, replicate}
use Rattle.std.specs.Prelude.{Result, Ok, Err}
use Rattle.refusals.specs.declared.refusal.Refusal.TheVariants as Refusals
use Rattle.refusals.specs.Judge.{Judgement, first, none}
use Rattle.refusals.proofs.RefusalLaws.{none-first}
use Rattle.sponge.specs.declared.Tip5.{Tip5}
use Rattle.sponge.specs.Answers.{squeeze_refusal}
use Rattle.sponge.specs.History.Step.{squeeze}
use Rattle.sponge.specs.WalkBack.{Accepted}
use Rattle.draws.specs.declared.error.DrawError.{DrawError}
use Rattle.draws.specs.declared.error.DrawError.TheVariants.{AllowanceSpent}
use Rattle.draws.specs.Answers.{draw_answer, draw_refusal, found_refusal}
use Rattle.draws.specs.Bound.{bound_refusal}
use Rattle.draws.specs.Draw.{Draw}
use Rattle.draws.specs.Error.{refusal_of}
use Rattle.draws.proofs.BoundLaws.{Power, accepted-bound}
use Rattle.draws.proofs.SqueezeLaws.{squeezes-accepted}

-- A draw that is made: the bound is a power of two, and every squeeze that it may make is accepted

pub accepted-draw : (s : Tip5) (bound allowance : ℕ) → draw_refusal s bound ≡ none → Power 32 bound × Accepted (replicate allowance squeeze) s
accepted-draw s bound allowance e =
    let both = none-first (squeeze_refusal s) (bound_refusal bound ∷ []) e in
    (accepted-bound bound (none-first (bound_refusal bound) [] both.1).0, squeezes-accepted allowance s both.0)

-- What is refused

-- the refusal of an answer, or none
abbrev pub refusal_in : Result ℕ DrawError → Judgement
refusal_in (Ok squeezes) = none
refusal_in (Err error) = Err (refusal_of error)

-- it is the refusal before the draw, and after that 6 where the draw is short
pub answer-refusal : (j : Judgement) (wanted : ℕ) (d : Draw) → refusal_in (draw_answer j wanted d) ≡ first (j ∷ found_refusal wanted (length d.indices) ∷ [])
answer-refusal (Ok done) wanted d = go (ltb (length d.indices) wanted)
  where
    go : (b : Bool) → refusal_in (cond b (Err (AllowanceSpent (length d.indices) d.squeezes)) (Ok d.squeezes)) ≡ first (cond b (Err Refusals.AllowanceSpent) none ∷ [])
    go true = refl
    go false = refl
answer-refusal (Err refusal) wanted d = refl
