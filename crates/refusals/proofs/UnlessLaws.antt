-- What stands where a call is granted and where it is refused.
-- Assumes nothing.
use mathlib.Core.Path.{◌≡◌, ap}
use Rattle.refusals.specs.Judge.{Judgement, none, unless}

pub unless-granted : {A : Type 0} {j : Judgement} (answer room : A) → j ≡ none → unless j answer room ≡ answer
unless-granted answer room e = ap (λ (k : Judgement). unless k answer room) e
