-- The number of each refusal, as C, the program's lines and the documents have it.
use Rattle.std.specs.Prelude.{ℕ, Result, Ok, Err}
use Rattle.refusals.specs.declared.refusal.Refusal.{Refusal}
use Rattle.refusals.specs.declared.refusal.Refusal.TheVariants.{BadWord, WrongLength, BadBound, WrongSheetLength, BadHeader, AllowanceSpent, WrongShape, NoSuchRound}
use Rattle.refusals.specs.Judge.{Judgement}

abbrev pub number_of : Refusal → ℕ
number_of BadWord = 1
number_of WrongLength = 2
number_of BadBound = 3
number_of WrongSheetLength = 4
number_of BadHeader = 5
number_of AllowanceSpent = 6
number_of WrongShape = 7
number_of NoSuchRound = 8

-- 0 for none
abbrev pub number : Judgement → ℕ
number (Ok done) = 0
number (Err refusal) = number_of refusal

-- an answer as a number and what stands in the room of a value: the value, or what stood there where the call is refused
abbrev pub handed : {A : Type 0} → Result A Refusal → (room : A) → ℕ × A
handed (Ok answer) room = (0, answer)
handed (Err refusal) room = (number_of refusal, room)
