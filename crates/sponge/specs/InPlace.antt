-- What a call in place answers and leaves, said by the answer by value: it leaves the next sponge, or where it is refused the
-- one that was lent.
use Rattle.std.specs.Prelude.{List, ℕ, Result, Ok, Err}
use Rattle.refusals.specs.declared.refusal.Refusal.{Refusal}
use Rattle.refusals.specs.Judge.{Judgement, none}
use Rattle.sponge.specs.declared.Tip5.{Tip5}

-- nothing but the refusal is answered
abbrev pub leaving : Result Tip5 Refusal → (lent : Tip5) → Judgement × Tip5
leaving (Ok next) lent = (none, next)
leaving (Err refusal) lent = (Err refusal, lent)

-- ten words are answered
abbrev pub leaving_ten : Result (Tip5 × List ℕ) Refusal → (lent : Tip5) → Result (List ℕ) Refusal × Tip5
leaving_ten (Ok (next, ten)) lent = (Ok ten, next)
leaving_ten (Err refusal) lent = (Err refusal, lent)
