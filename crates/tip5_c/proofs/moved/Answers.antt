-- `moved`: a call by value that is refused is refused for its words.
-- Assumes nothing.
use Rattle.std.proofs.Common.{rules, ◌≡◌, List, ℕ, Result, Ok, Err, refl, ap, ◌∙◌}
use Rattle.refusals.specs.declared.refusal.Refusal.{Refusal}
use Rattle.refusals.specs.Judge.{Judgement, granted}
use Rattle.tip5_c.proofs.moved.Goals as goal

abbrev judged : Result (List ℕ) Refusal → Judgement
judged (Ok words) = Ok tt
judged (Err refusal) = Err refusal

judged-granted : (j : Judgement) (words : List ℕ) → judged (granted j words) ≡ j
judged-granted (Ok done) words = refl
judged-granted (Err refusal) words = refl

refused : {j : Judgement} (words : List ℕ) {refusal : Refusal} → Err refusal ≡ granted j words → Err refusal ≡ j
refused {j} words e = ap judged e ∙ judged-granted j words

pub returns-in_err-words-clause-value : goal.returns-in_err-words-clause-value
returns-in_err-words-clause-value g c = search (rules, refused)
