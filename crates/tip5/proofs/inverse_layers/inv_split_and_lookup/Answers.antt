-- `inverse_layers::inv_split_and_lookup` meets its contract.
-- Assumes nothing.
use mathlib.Core.Path.{◌≡◌, ap, subst⁻¹, ◌∙◌}
use Prim.Native.Nat.{ℕ, ◌<◌}
use borrow.Author.Rules.{rules}
use Rattle.numbers.specs.Modulus.{P}
use Rattle.rounds.specs.Inverse.{inv_lookup, inv_lookup_byte}
use Rattle.rounds.proofs.LookupLaws.{inv_lookup-below}
use Rattle.tip5.proofs.inverse_layers.inv_split_and_lookup.Goals as goal

looked-up : (c : goal.After-bytewise) → c.bytewise.result ≡ inv_lookup c.a.inside.0
unfolding inv_lookup
looked-up c = c.bytewise.ensures inv_lookup_byte (λ byte answer h met. search rules)

pub invariant_of-result : goal.invariant_of-result
invariant_of-result c = subst⁻¹ (λ (n : ℕ). n < P) (looked-up c) (inv_lookup-below c.a.invariant)

pub returns : goal.returns
returns c = looked-up c ∙ ap inv_lookup c.a.view_is
