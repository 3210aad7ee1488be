-- Which bounds a draw takes.
use Rattle.std.specs.Prelude.{Bool, true, false, cond, ℕ, zero, suc, ◌^◌, eqb, Err}
use Rattle.refusals.specs.declared.refusal.Refusal.TheVariants.{BadBound}
use Rattle.refusals.specs.Judge.{Judgement, none}

-- the bound is 2 ^ k for some k below n
unfoldable pub power_below : (n bound : ℕ) → Bool
power_below zero bound = false
power_below (suc k) bound = cond (eqb bound (2 ^ k)) true (power_below k bound)

-- refusal 3 for a bound that is no power of two from 1 to 2 ^ 31
abbrev pub bound_refusal : (bound : ℕ) → Judgement
bound_refusal bound = cond (power_below 32 bound) none (Err BadBound)
