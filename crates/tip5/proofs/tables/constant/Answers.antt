-- `tables::constant` meets its contract: the code's table is the raw word of every round constant, by computation.
-- Assumes nothing.
use mathlib.Core.Path.{refl, subst⁻¹}
use Prim.Native.Nat.{ℕ, ◌+◌, ◌*◌, ◌<◌}
use native.Mathlib.Omega.{arith}
use lib.ListN.{get_or}
use Rattle.numbers.specs.Modulus.{P}
use Rattle.rounds.specs.Constants.{round_constants}
use Rattle.rounds.specs.Field.{raw_of}
use Rattle.rounds.specs.Round.{constant}
use Rattle.rounds.proofs.RoundLaws.{constant-below}
use Rattle.tip5.proofs.TableLaws.{entry-read}
use Rattle.tip5.proofs.tables.constant.Goals as goal

pub invariant_of-result : goal.invariant_of-result
unfolding constant raw_of round_constants
invariant_of-result c =
    subst⁻¹ (λ (n : ℕ). n < P) (entry-read 80 (λ k. raw_of (get_or round_constants k 0)) refl (16 * c.args.round + c.args.r) (omega arith))
    (constant-below c.args.round c.args.r)

pub returns : goal.returns
unfolding constant raw_of round_constants
returns c = entry-read 80 (λ k. raw_of (get_or round_constants k 0)) refl (16 * c.args.round + c.args.r) (omega arith)
