-- What the calls on a field element answer: refusal 1 where a raw word is P or more.
use Rattle.std.specs.Prelude.{List, [], ◌∷◌, ℕ, Result}
use Rattle.rounds.specs.Field.{value_of, add, sub, mul, power}
use Rattle.refusals.specs.declared.refusal.Refusal.{Refusal}
use Rattle.refusals.specs.Judge.{granted, word_refusal}
use Rattle.tip5.specs.declared.b_field_element.BFieldElement.{BFieldElement}
use Rattle.tip5.specs.declared.b_field_element.Value.{Value}

-- the element of a raw word
abbrev pub element_of : ℕ → BFieldElement
element_of w = record { 0 = w }

-- an element, once the raw words that it comes from are judged
abbrev pub element : (judged : List ℕ) (word : ℕ) → Result BFieldElement Refusal
element ws w = granted (word_refusal ws) (element_of w)

abbrev pub from_raw : ℕ → Result BFieldElement Refusal
from_raw w = element (w ∷ []) w

abbrev pub raw_word : BFieldElement → Result ℕ Refusal
raw_word a = granted (word_refusal (a.0 ∷ [])) a.0

abbrev pub value : BFieldElement → Result Value Refusal
value a = granted (word_refusal (a.0 ∷ [])) (record { 0 = value_of a.0 })

abbrev pub sum : BFieldElement → BFieldElement → Result BFieldElement Refusal
sum a b = element (a.0 ∷ b.0 ∷ []) (add a.0 b.0)

abbrev pub difference : BFieldElement → BFieldElement → Result BFieldElement Refusal
difference a b = element (a.0 ∷ b.0 ∷ []) (sub a.0 b.0)

abbrev pub product : BFieldElement → BFieldElement → Result BFieldElement Refusal
product a b = element (a.0 ∷ b.0 ∷ []) (mul a.0 b.0)

abbrev pub mod_pow : BFieldElement → (exponent : ℕ) → Result BFieldElement Refusal
mod_pow a e = element (a.0 ∷ []) (power a.0 e)
