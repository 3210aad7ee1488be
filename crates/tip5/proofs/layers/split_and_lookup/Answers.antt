-- `layers::split_and_lookup` meets its contract.
-- Assumes nothing.
use mathlib.Core.Path.{◌≡◌, ap, subst⁻¹, ◌∙◌}
use Prim.Native.Nat.{ℕ, ◌<◌}
use borrow.Author.Rules.{rules}
use Rattle.numbers.specs.Modulus.{P}
use Rattle.rounds.specs.Round.{lookup, lookup_byte}
use Rattle.rounds.proofs.LookupLaws.{lookup-below}
use Rattle.tip5.proofs.layers.split_and_lookup.Goals as goal

looked-up : (c : goal.After-bytewise) → c.bytewise.result ≡ lookup c.a.inside.0
unfolding lookup
looked-up c = c.bytewise.ensures lookup_byte (λ byte answer h met. search rules)

pub invariant_of-result : goal.invariant_of-result
invariant_of-result c = subst⁻¹ (λ (n : ℕ). n < P) (looked-up c) (lookup-below c.a.invariant)

pub returns : goal.returns
returns c = looked-up c ∙ ap lookup c.a.view_is
