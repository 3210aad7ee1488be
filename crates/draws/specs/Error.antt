-- The refusal that an error of a draw comes to.
use Rattle.refusals.specs.declared.refusal.Refusal.{Refusal}
use Rattle.refusals.specs.declared.refusal.Refusal.TheVariants as Refusals
use Rattle.draws.specs.declared.error.DrawError.{DrawError}
use Rattle.draws.specs.declared.error.DrawError.TheVariants.{Refused, AllowanceSpent}

abbrev pub refusal_of : DrawError → Refusal
refusal_of (Refused refusal) = refusal
refusal_of (AllowanceSpent found squeezes) = Refusals.AllowanceSpent
