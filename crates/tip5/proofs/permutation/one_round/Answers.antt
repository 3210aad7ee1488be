-- `permutation::one_round` meets its contract.
-- Assumes nothing.
use mathlib.Core.Path.{ap, ◌∙◌}
use Prim.Native.Nat.{ℕ}
use mathlib.Core.List.{List}
use Rattle.numbers.specs.Circulant.{row_sum}
use Rattle.numbers.specs.Lists.{tab}
use Rattle.matrix.specs.Column.{mds_column}
use Rattle.rounds.specs.Round.{add_constants, round}
use Rattle.tip5.specs.Reduced.{reduced}
use Rattle.tip5.proofs.MendedLaws.{mended-layer}
use Rattle.tip5.proofs.permutation.one_round.Goals as goal

pub returns : goal.returns
unfolding round
returns c =
    let i = c.args.round in
    c.add_constants.ensures
    ∙ ap (add_constants i) (c.mds_generated-m.ensures ∙ ap (λ (s : List ℕ). tab 16 0 (λ r. reduced (row_sum mds_column s r))) c.sbox_layer-s.ensures)
    ∙ mended-layer i mds_column _
