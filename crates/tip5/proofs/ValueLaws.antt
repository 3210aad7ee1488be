-- What the call for the value of an element answers where its word is below P.
-- Assumes nothing.
use mathlib.Core.Path.{◌≡◌, ◌∙◌}
use Prim.Native.Nat.{ℕ, ◌<◌}
use borrow.Author.Tests.{lt-ltb}
use Rattle.std.specs.Prelude.{Result, Ok}
use Rattle.numbers.specs.Modulus.{P}
use Rattle.rounds.specs.Field.{value_of}
use Rattle.refusals.specs.declared.refusal.Refusal.{Refusal}
use Rattle.tip5.specs.declared.b_field_element.Value.{Value}
use Rattle.tip5.specs.Element.{element_of, value}

pub value-answered : {a : Result Value Refusal} (w : ℕ) → w < P → a ≡ value (element_of w) → a ≡ Ok (record { 0 = value_of w })
value-answered w h e = e ∙ simp (lt-ltb w P h)
