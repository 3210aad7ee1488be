-- Which words, lengths and rounds are accepted, which refusal comes first, and what a refused call answers.
use Rattle.std.specs.Prelude.{Bool, true, false, cond, List, [], ◌∷◌, ℕ, eqb, ltb, length, Result, Ok, Err}
use Rattle.numbers.specs.Modulus.{P}
use Rattle.refusals.specs.declared.refusal.Refusal.{Refusal}
use Rattle.refusals.specs.declared.refusal.Refusal.TheVariants.{BadWord, WrongLength, NoSuchRound}

-- a judgement: a refusal, or none
abbrev pub Judgement : Type 0
Judgement = Result Unit Refusal

abbrev pub none : Judgement
none = Ok tt

-- every word of the list is below P
abbrev pub all_below : List ℕ → Bool
all_below [] = true
all_below (w ∷ ws) = cond (ltb w P) (all_below ws) false

-- refused for a raw word that is P or more
abbrev pub word_refusal : List ℕ → Judgement
word_refusal ws = cond (all_below ws) none (Err BadWord)

-- refused for a slice that does not have the wanted length
abbrev pub length_refusal : (wanted : ℕ) → List ℕ → Judgement
length_refusal n ws = cond (eqb (length ws) n) none (Err WrongLength)

-- refused for a round that there is not
abbrev pub round_refusal : (i : ℕ) → Judgement
round_refusal i = cond (ltb i 5) none (Err NoSuchRound)

-- the first refusal of a list of judgements
abbrev pub first : List Judgement → Judgement
first [] = none
first (Ok done ∷ js) = first js
first (Err refusal ∷ js) = Err refusal

-- the answer where nothing is refused, otherwise the refusal alone
abbrev pub granted : {A : Type 0} → Judgement → A → Result A Refusal
granted (Ok done) answer = Ok answer
granted (Err refusal) answer = Err refusal

-- the answer where nothing is refused, and what stands in its room where something is
abbrev pub unless {ℓ} : {A : Type ℓ} → Judgement → A → A → A
unless (Ok done) answer room = answer
unless (Err refusal) answer room = room
