-- The fast matrix layer followed by the constants is the plain one followed by them, though its words may be P or more.
-- Assumes nothing.
use mathlib.Core.List.{List}
use mathlib.Core.Path.{◌≡◌, ap, sym, ◌∙◌}
use Prim.Native.Nat.{ℕ, ◌%◌}
use lib.ListN.{get_or}
use Rattle.numbers.specs.Circulant.{row_sum}
use Rattle.numbers.specs.Lists.{tab}
use Rattle.numbers.specs.Modulus.{P}
use Rattle.numbers.proofs.Congruence.{cong-mod, cong-sym, cong-trans}
use Rattle.numbers.proofs.Lists.{get_or-tab₀, tab-same}
use Rattle.rounds.specs.Field.{add}
use Rattle.rounds.specs.Round.{add_constants, circulant, constant}
use Rattle.rounds.proofs.FieldLaws.{add-cong}
use Rattle.tip5.specs.Reduced.{reduced}
use Rattle.tip5.proofs.ReducedLaws.{reduced-cong}

pub mended-layer : (i : ℕ) (column s : List ℕ) → add_constants i (tab 16 0 (λ r. reduced (row_sum column s r))) ≡ add_constants i (circulant column s)
unfolding add_constants circulant
mended-layer i column s =
    tab-same 16 0 {f = λ r. add (get_or (tab 16 0 (λ r. reduced (row_sum column s r))) r 0) (constant i r)} {g = λ r. add (get_or (tab 16 0 (λ r. row_sum column s r % P)) r 0) (constant i r)}
    (λ r l u. ap (λ (w : ℕ). add w (constant i r)) (get_or-tab₀ 16 (λ r. reduced (row_sum column s r)) r u)
    ∙ add-cong (constant i r) (cong-trans (reduced-cong (row_sum column s r)) (cong-sym cong-mod))
    ∙ ap (λ (w : ℕ). add w (constant i r)) (sym (get_or-tab₀ 16 (λ r. row_sum column s r % P) r u)))
