-- Words below P in lists that are put together and taken apart.
-- Assumes nothing.
use mathlib.Core.List.{List, [], ◌∷◌, ◌++◌}
use mathlib.Core.Path.{subst⁻¹}
use Prim.Native.Nat.{ℕ, zero, suc, ◌<◌}
use lib.Dec.{lit<}
use lib.ListN.{drop, replicate, take}
use lib.Seq.{get_or-drop}
use Rattle.numbers.specs.Modulus.{P}
use Rattle.rounds.specs.Field.{Below}

pub append-below : (xs ys : List ℕ) → Below xs → Below ys → Below (xs ++ ys)
append-below [] ys hx hy k = hy k
append-below (x ∷ xs) ys hx hy zero = hx 0
append-below (x ∷ xs) ys hx hy (suc k) = append-below xs ys (λ k. hx (suc k)) hy k

pub take-below : (n : ℕ) (xs : List ℕ) → Below xs → Below (take n xs)
take-below zero xs h k = lit< tt
take-below (suc n) [] h k = lit< tt
take-below (suc n) (x ∷ xs) h zero = h 0
take-below (suc n) (x ∷ xs) h (suc k) = take-below n xs (λ k. h (suc k)) k

pub drop-below : (n : ℕ) (xs : List ℕ) → Below xs → Below (drop n xs)
drop-below n xs h k = subst⁻¹ (λ (w : ℕ). w < P) (get_or-drop n xs k 0) (h _)

pub replicate-below : (n : ℕ) {w : ℕ} → w < P → Below (replicate n w)
replicate-below zero h k = lit< tt
replicate-below (suc n) h zero = h
replicate-below (suc n) h (suc k) = replicate-below n h k

pub cons-below : {w : ℕ} (ws : List ℕ) → w < P → Below ws → Below (w ∷ ws)
cons-below ws hw h zero = hw
cons-below ws hw h (suc k) = h k
