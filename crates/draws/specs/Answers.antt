-- What `sample_indices` answers: refusal 1 for a sponge with a word of P or more, 3 for a bad bound, 6 where indices are missing.
-- With 1 and 3 nothing is drawn; with 6 what was found stands.
use Rattle.std.specs.Prelude.{cond, List, [], ◌∷◌, ◌++◌, ℕ, ltb, drop, length, replicate, Result, Ok, Err}
use Rattle.refusals.specs.declared.refusal.Refusal.TheVariants as Refusals
use Rattle.refusals.specs.Judge.{Judgement, first, none, unless}
use Rattle.refusals.specs.Number.{number_of}
use Rattle.sponge.specs.declared.Tip5.{Tip5}
use Rattle.sponge.specs.Answers.{squeeze_refusal}
use Rattle.sponge.specs.History.{Step}
use Rattle.sponge.specs.History.Step.{squeeze}
use Rattle.draws.specs.declared.error.DrawError.{DrawError}
use Rattle.draws.specs.declared.error.DrawError.TheVariants.{Refused, AllowanceSpent}
use Rattle.draws.specs.Bound.{bound_refusal}
use Rattle.draws.specs.Draw.{Draw, draw, nothing}

-- the refusals with which nothing is drawn
abbrev pub draw_refusal : Tip5 → (bound : ℕ) → Judgement
draw_refusal s bound = first (squeeze_refusal s ∷ bound_refusal bound ∷ [])

-- refusal 6 where fewer indices are found than wanted
abbrev pub found_refusal : (wanted found : ℕ) → Judgement
found_refusal wanted found = cond (ltb found wanted) (Err Refusals.AllowanceSpent) none

-- the draw that a call makes: none with those refusals
abbrev pub drawn : Tip5 → (bound allowance wanted : ℕ) → Draw
drawn s bound allowance wanted = unless (draw_refusal s bound) (draw bound allowance wanted s) (nothing s)

-- the answer with a draw: its squeezes, and 6 with both counts if it is short and there is no refusal before that
abbrev pub draw_answer : Judgement → (wanted : ℕ) → Draw → Result ℕ DrawError
draw_answer (Ok done) wanted d = cond (ltb (length d.indices) wanted) (Err (AllowanceSpent (length d.indices) d.squeezes)) (Ok d.squeezes)
draw_answer (Err refusal) wanted d = Err (Refused refusal)

-- a slice with the indices in front, its other entries as they were
abbrev pub in_front : (indices before : List ℕ) → List ℕ
in_front indices before = indices ++ drop (length indices) before

-- the answer to a call, and the next sponge
abbrev pub sample_indices : Tip5 → (bound allowance wanted : ℕ) → Result ℕ DrawError × Tip5
sample_indices s bound allowance wanted = (draw_answer (draw_refusal s bound) wanted (drawn s bound allowance wanted), (drawn s bound allowance wanted).sponge)

-- its lent slice at exit
abbrev pub sampled_slice : Tip5 → (bound allowance : ℕ) (before : List ℕ) → List ℕ
sampled_slice s bound allowance before = in_front (drawn s bound allowance (length before)).indices before

-- its steps: every squeeze that it made is one, with refusal 6 too
abbrev pub draw_steps : Tip5 → (bound allowance wanted : ℕ) → List Step
draw_steps s bound allowance wanted = replicate (drawn s bound allowance wanted).squeezes squeeze

-- an answer as its number and both counts: zeros where nothing was drawn, and as many indices as are wanted where none is missing
abbrev pub counted : (wanted : ℕ) → Result ℕ DrawError → ℕ × (ℕ × ℕ)
counted wanted (Ok squeezes) = (0, (wanted, squeezes))
counted wanted (Err (Refused refusal)) = (number_of refusal, (0, 0))
counted wanted (Err (AllowanceSpent found squeezes)) = (number_of Refusals.AllowanceSpent, (found, squeezes))
