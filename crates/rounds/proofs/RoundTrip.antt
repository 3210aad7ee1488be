-- The way back: on every state of sixteen words below P each round and the permutation are undone by their inverses, both ways
-- round. Below says that every word is below P; JudgeLaws has that it holds exactly where nothing is refused, and RoundLaws that the
-- words stay below P and are sixteen, both ways.
-- Assumes nothing.
use mathlib.Core.Path.{◌≡◌, refl, ap, ◌∙◌}
use mathlib.Core.List.{List}
use Prim.Native.Nat.{ℕ, zero, suc}
use lib.ListN.{length}
use Rattle.matrix.specs.Column.{mds_column}
use Rattle.rounds.specs.Constants.{inv_mds_column}
use Rattle.rounds.specs.Inverse.{inv_permuted, inv_round, inv_sbox_layer, subtract_constants, inv_rounds}
use Rattle.rounds.specs.Round.{add_constants, circulant, permuted, round, rounds, sbox_layer}
use Rattle.rounds.specs.Field.{Below}
use Rattle.rounds.proofs.CirculantLaws.{inv_mds-mds, mds-inv_mds}
use Rattle.rounds.proofs.LayersUndone.{add_constants-subtract_constants, inv_sbox_layer-sbox_layer, sbox_layer-inv_sbox_layer, subtract_constants-add_constants}
use Rattle.rounds.proofs.RoundLaws.{
  circulant-below,
  circulant-length,
  inv_round-below,
  inv_round-length,
  rounds-below,
  rounds-length,
  sbox_layer-below,
  sbox_layer-length,
  subtract_constants-below,
  subtract_constants-length,
}

-- Rounds

pub inv_round-round : (i : ℕ) (s : List ℕ) → length s ≡ 16 → Below s → inv_round i (round i s) ≡ s
unfolding inv_round round
inv_round-round i s e h =
    ap (λ t. inv_sbox_layer (circulant inv_mds_column t))
    (subtract_constants-add_constants (circulant mds_column (sbox_layer s)) (circulant-length _ _) (circulant-below _ _) i)
    ∙ ap inv_sbox_layer (inv_mds-mds (sbox_layer s) (sbox_layer-length s) (sbox_layer-below s h))
    ∙ inv_sbox_layer-sbox_layer s e h

pub round-inv_round : (i : ℕ) (s : List ℕ) → length s ≡ 16 → Below s → round i (inv_round i s) ≡ s
unfolding inv_round round
round-inv_round i s e h =
    ap (λ t. add_constants i (circulant mds_column t))
    (sbox_layer-inv_sbox_layer (circulant inv_mds_column (subtract_constants i s)) (circulant-length _ _) (circulant-below _ _))
    ∙ ap (add_constants i) (mds-inv_mds (subtract_constants i s) (subtract_constants-length i s) (subtract_constants-below i s))
    ∙ add_constants-subtract_constants s e h i

pub inv_rounds-rounds : (n : ℕ) (s : List ℕ) → length s ≡ 16 → Below s → inv_rounds n (rounds n s) ≡ s
unfolding rounds inv_rounds
inv_rounds-rounds zero s e h = refl
inv_rounds-rounds (suc n) s e h =
    ap (inv_rounds n) (inv_round-round n (rounds n s) (rounds-length n s e) (rounds-below n s h)) ∙ inv_rounds-rounds n s e h

pub rounds-inv_rounds : (n : ℕ) (s : List ℕ) → length s ≡ 16 → Below s → rounds n (inv_rounds n s) ≡ s
unfolding rounds inv_rounds
rounds-inv_rounds zero s e h = refl
rounds-inv_rounds (suc n) s e h =
    ap (round n) (rounds-inv_rounds n (inv_round n s) (inv_round-length n s) (inv_round-below n s)) ∙ round-inv_round n s e h

-- The permutation

pub inv_permuted-permuted : (s : List ℕ) → length s ≡ 16 → Below s → inv_permuted (permuted s) ≡ s
unfolding inv_permuted permuted
inv_permuted-permuted = inv_rounds-rounds 5

pub permuted-inv_permuted : (s : List ℕ) → length s ≡ 16 → Below s → permuted (inv_permuted s) ≡ s
unfolding inv_permuted permuted
permuted-inv_permuted = rounds-inv_rounds 5
