-- Each layer of a round is undone by its inverse, both ways round, on sixteen words below P. The circulant's are in CirculantLaws.
-- Assumes nothing.
use mathlib.Core.Path.{◌≡◌, sym, ap, ◌∙◌}
use mathlib.Core.Bool.{Bool, true, false, cond}
use mathlib.Core.List.{List}
use Prim.Native.Nat.{ℕ, ◌^◌, ◌<◌}
use native.Mathlib.Omega.{arith}
use lib.Dec.{ltb}
use lib.ListN.{length, get_or}
use Rattle.numbers.specs.Lists.{tab}
use Rattle.numbers.specs.Modulus.{P, root_exponent}
use Rattle.numbers.proofs.Lists.{get_or-tab₀, tab-unique}
use Rattle.rounds.specs.Field.{add, power, sub, Below}
use Rattle.rounds.specs.Inverse.{inv_lookup, inv_sbox, inv_sbox_layer, subtract_constants}
use Rattle.rounds.specs.Round.{add_constants, constant, lookup, sbox, sbox_layer}
use Rattle.rounds.proofs.FieldUndone.{add-sub, root-seventh, seventh-root, sub-add}
use Rattle.rounds.proofs.LookupLaws.{inv_lookup-lookup, lookup-inv_lookup}
use Rattle.rounds.proofs.RoundLaws.{constant-below}

-- two layers that work word by word undo each other where their words do
layer-undone : (f g : ℕ → ℕ → ℕ) (s : List ℕ) → length s ≡ 16 → ((r : ℕ) → f r (g r (get_or s r 0)) ≡ get_or s r 0)
    → tab 16 0 (λ r. f r (get_or (tab 16 0 (λ c. g c (get_or s c 0))) r 0)) ≡ s
layer-undone f g s e h =
    tab-unique s (λ r. f r (get_or (tab 16 0 (λ c. g c (get_or s c 0))) r 0)) e λ r r<.
    sym (ap (f r) (get_or-tab₀ 16 (λ c. g c (get_or s c 0)) r r<) ∙ h r)

-- by one test, one of two answers and then one of two functions that lead back
either-undone : (b : Bool) (f g : ℕ → ℕ) (x y : ℕ) {w : ℕ} → f x ≡ w → g y ≡ w → cond b (f (cond b x y)) (g (cond b x y)) ≡ w
either-undone true f g x y ef eg = ef
either-undone false f g x y ef eg = eg

word : {w : ℕ} → w < P → w < 2 ^ 64
word h = omega arith

inv_sbox-sbox : (i : ℕ) {w : ℕ} → w < P → inv_sbox i (sbox i w) ≡ w
unfolding inv_sbox sbox
inv_sbox-sbox i {w} h =
    either-undone (ltb i 4) inv_lookup (λ a. power a root_exponent) (lookup w) (power w 7) (inv_lookup-lookup w (word h)) (root-seventh h)

sbox-inv_sbox : (i : ℕ) {w : ℕ} → w < P → sbox i (inv_sbox i w) ≡ w
unfolding inv_sbox sbox
sbox-inv_sbox i {w} h =
    either-undone (ltb i 4) lookup (λ a. power a 7) (inv_lookup w) (power w root_exponent) (lookup-inv_lookup w (word h)) (seventh-root h)

module _ (s : List ℕ) (e : length s ≡ 16) (h : Below s) where
  pub inv_sbox_layer-sbox_layer : inv_sbox_layer (sbox_layer s) ≡ s
  unfolding inv_sbox_layer sbox_layer
  inv_sbox_layer-sbox_layer = layer-undone inv_sbox sbox s e λ r. inv_sbox-sbox r (h r)

  pub sbox_layer-inv_sbox_layer : sbox_layer (inv_sbox_layer s) ≡ s
  unfolding inv_sbox_layer sbox_layer
  sbox_layer-inv_sbox_layer = layer-undone sbox inv_sbox s e λ r. sbox-inv_sbox r (h r)

  pub subtract_constants-add_constants : (i : ℕ) → subtract_constants i (add_constants i s) ≡ s
  unfolding subtract_constants add_constants
  subtract_constants-add_constants i =
      layer-undone (λ r a. sub a (constant i r)) (λ r a. add a (constant i r)) s e λ r. sub-add (h r) (constant-below i r)

  pub add_constants-subtract_constants : (i : ℕ) → add_constants i (subtract_constants i s) ≡ s
  unfolding subtract_constants add_constants
  add_constants-subtract_constants i =
      layer-undone (λ r a. add a (constant i r)) (λ r a. sub a (constant i r)) s e λ r. add-sub (h r) (constant-below i r)
