-- What a wrapper lends a call: a sponge of sixteen words, a plain value.
use Rattle.std.specs.Prelude.{List, ℕ}
use Rattle.sponge.specs.declared.Tip5.{Tip5}
use Rattle.tip5.specs.declared.b_field_element.Value.{Value}

-- a sponge of these words
abbrev pub sponge_of : (state : List ℕ) → Tip5
sponge_of s = record { state = s }

-- a plain value
abbrev pub value_of_word : ℕ → Value
value_of_word v = record { 0 = v }
