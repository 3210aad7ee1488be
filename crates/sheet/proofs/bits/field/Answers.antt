-- `bits::field` meets its contract.
-- Assumes nothing.
use mathlib.Core.Path.{ap, ◌∙◌}
use Prim.Native.Nat.{ℕ, ◌+◌, ◌-◌, ◌*◌, ◌/◌, ◌%◌, ◌^◌}
use native.Mathlib.Omega.{arith}
use lib.ListN.{length}
use Rattle.std.proofs.lemmas.Nat.{and_mask}
use Rattle.numbers.proofs.Tests.{shifted-one}
use Rattle.sheet.specs.Bits.{field}
use Rattle.sheet.proofs.BitLaws.{number-padded}
use Rattle.sheet.proofs.bits.field.Goals as goal

pub returns : goal.returns
unfolding field
returns c =
    let s = c.args in
    rw (shifted-one s.width c.requires.3, and_mask _ s.width)
    (ap (λ (n : ℕ). n / 2 ^ (8 * length s.bytes.now - (s.offset + s.width)) % 2 ^ s.width)
    (c.from_be_bytes.ensures ∙ number-padded s.bytes.now c.requires.0 (omega arith) c.copy_from_slice.ensures.after))
