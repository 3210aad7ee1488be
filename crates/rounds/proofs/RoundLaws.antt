-- Every layer, every round and the permutation make sixteen words, in both directions, and the words stay below P. Below says of
-- a list that each of its words is below P.
-- Assumes nothing.
use mathlib.Core.Path.{◌≡◌, refl}
use mathlib.Core.Bool.{Bool, true, false, cond}
use mathlib.Core.List.{List}
use Prim.Native.Nat.{ℕ, zero, suc, ◌<◌}
use native.Mathlib.Nat.{mod-lt}
use lib.Dec.{lit<, ltb}
use lib.ListN.{length, get_or}
use Rattle.numbers.specs.Circulant.{row_sum}
use Rattle.numbers.specs.Lists.{tab}
use Rattle.numbers.specs.Modulus.{P}
use Rattle.numbers.proofs.Lists.{get_or-tab-all}
use Rattle.rounds.specs.Inverse.{inv_permuted, inv_round, inv_sbox, inv_sbox_layer, subtract_constants, inv_rounds}
use Rattle.rounds.specs.Round.{add_constants, circulant, constant, permuted, round, rounds, sbox, sbox_layer}
use Rattle.rounds.specs.Field.{Below}
use Rattle.rounds.proofs.FieldLaws.{add-below, power-below, raw_of-below, sub-below}
use Rattle.rounds.proofs.LookupLaws.{inv_lookup-below, lookup-below}

-- a list that is made by a function into numbers below P
pub tab-below : (n i : ℕ) {f : ℕ → ℕ} → ((c : ℕ) → f c < P) → Below (tab n i f)
tab-below n i {f} = get_or-tab-all (λ w. w < P) n i f (lit< tt)

-- one of two numbers below P
cond-below : (b : Bool) {x y : ℕ} → x < P → y < P → cond b x y < P
cond-below true hx hy = hx
cond-below false hx hy = hy

-- The layers

pub constant-below : (i r : ℕ) → constant i r < P
unfolding constant
constant-below i r = raw_of-below _

pub sbox-below : (i : ℕ) {w : ℕ} → w < P → sbox i w < P
unfolding sbox
sbox-below i {w} h = cond-below (ltb i 4) (lookup-below h) (power-below w _)

pub sbox_layer-length : (s : List ℕ) → length (sbox_layer s) ≡ 16
unfolding sbox_layer
sbox_layer-length s = refl

pub sbox_layer-below : (s : List ℕ) → Below s → Below (sbox_layer s)
unfolding sbox_layer
sbox_layer-below s h = tab-below 16 0 λ i. sbox-below i (h i)

pub circulant-length : (column s : List ℕ) → length (circulant column s) ≡ 16
unfolding circulant
circulant-length column s = refl

pub circulant-below : (column s : List ℕ) → Below (circulant column s)
unfolding circulant
circulant-below column s = tab-below 16 0 λ r. mod-lt (row_sum column s r) (lit< tt)

pub add_constants-length : (i : ℕ) (s : List ℕ) → length (add_constants i s) ≡ 16
unfolding add_constants
add_constants-length i s = refl

pub add_constants-below : (i : ℕ) (s : List ℕ) → Below (add_constants i s)
unfolding add_constants
add_constants-below i s = tab-below 16 0 λ r. add-below (get_or s r 0) (constant i r)

pub subtract_constants-length : (i : ℕ) (s : List ℕ) → length (subtract_constants i s) ≡ 16
unfolding subtract_constants
subtract_constants-length i s = refl

pub subtract_constants-below : (i : ℕ) (s : List ℕ) → Below (subtract_constants i s)
unfolding subtract_constants
subtract_constants-below i s = tab-below 16 0 λ r. sub-below (get_or s r 0) (constant i r)

pub inv_sbox-below : (i : ℕ) {w : ℕ} → w < P → inv_sbox i w < P
unfolding inv_sbox
inv_sbox-below i {w} h = cond-below (ltb i 4) (inv_lookup-below h) (power-below w _)

pub inv_sbox_layer-length : (s : List ℕ) → length (inv_sbox_layer s) ≡ 16
unfolding inv_sbox_layer
inv_sbox_layer-length s = refl

pub inv_sbox_layer-below : (s : List ℕ) → Below s → Below (inv_sbox_layer s)
unfolding inv_sbox_layer
inv_sbox_layer-below s h = tab-below 16 0 λ i. inv_sbox-below i (h i)

-- A round, whatever it is given

pub round-length : (i : ℕ) (s : List ℕ) → length (round i s) ≡ 16
unfolding round
round-length i s = add_constants-length i _

pub round-below : (i : ℕ) (s : List ℕ) → Below (round i s)
unfolding round
round-below i s = add_constants-below i _

pub inv_round-length : (i : ℕ) (s : List ℕ) → length (inv_round i s) ≡ 16
unfolding inv_round
inv_round-length i s = inv_sbox_layer-length _

pub inv_round-below : (i : ℕ) (s : List ℕ) → Below (inv_round i s)
unfolding inv_round
inv_round-below i s = inv_sbox_layer-below _ (circulant-below _ _)

-- Some rounds: none leaves what it is given

pub rounds-length : (n : ℕ) (s : List ℕ) → length s ≡ 16 → length (rounds n s) ≡ 16
unfolding rounds
rounds-length zero s e = e
rounds-length (suc n) s e = round-length n (rounds n s)

pub rounds-below : (n : ℕ) (s : List ℕ) → Below s → Below (rounds n s)
unfolding rounds
rounds-below zero s h = h
rounds-below (suc n) s h = round-below n (rounds n s)

pub inv_rounds-length : (n : ℕ) (s : List ℕ) → length s ≡ 16 → length (inv_rounds n s) ≡ 16
unfolding inv_rounds
inv_rounds-length zero s e = e
inv_rounds-length (suc n) s e = inv_rounds-length n (inv_round n s) (inv_round-length n s)

pub inv_rounds-below : (n : ℕ) (s : List ℕ) → Below s → Below (inv_rounds n s)
unfolding inv_rounds
inv_rounds-below zero s h = h
inv_rounds-below (suc n) s h = inv_rounds-below n (inv_round n s) (inv_round-below n s)

-- The permutation, whatever it is given

pub permuted-length : (s : List ℕ) → length (permuted s) ≡ 16
unfolding permuted rounds
permuted-length s = round-length 4 (rounds 4 s)

pub permuted-below : (s : List ℕ) → Below (permuted s)
unfolding permuted rounds
permuted-below s = round-below 4 (rounds 4 s)

pub inv_permuted-length : (s : List ℕ) → length (inv_permuted s) ≡ 16
unfolding inv_permuted inv_rounds
inv_permuted-length s = inv_rounds-length 4 (inv_round 4 s) (inv_round-length 4 s)

pub inv_permuted-below : (s : List ℕ) → Below (inv_permuted s)
unfolding inv_permuted inv_rounds
inv_permuted-below s = inv_rounds-below 4 (inv_round 4 s) (inv_round-below 4 s)
