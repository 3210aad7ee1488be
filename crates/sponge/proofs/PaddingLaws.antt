-- The laws of padding: a whole ten comes first, the rest comes last, length n makes n / 10 + 1 tens, and each is ten words.
-- Assumes nothing.
use mathlib.Core.List.{List, [], ◌∷◌}
use mathlib.Core.Path.{◌≡◌, refl, ap, sym, ◌∙◌}
use Prim.Native.Nat.{ℕ, zero, suc, ◌+◌, ◌-◌, ◌/◌, ◌≤◌, ◌<◌}
use native.Mathlib.Omega.{arith}
use lib.Dec.{lit<}
use lib.ListN.{drop, length, replicate, take, length-append, length-drop, length-replicate, length-take}
use Rattle.rounds.specs.Field.{Below}
use Rattle.sponge.specs.Padding.{last_ten, padded, tens}
use Rattle.sponge.specs.Sponge.{one}
use Rattle.sponge.proofs.BelowLaws.{append-below, cons-below, drop-below, replicate-below, take-below}

-- an input of ten words or more
pub padded-more : (ws : List ℕ) → 10 ≤ length ws → padded ws ≡ take 10 ws ∷ padded (drop 10 ws)
unfolding padded tens
padded-more ws h =
    ap (λ (n : ℕ). tens n ws) (e ∙ ap (λ (n : ℕ). suc (n / 10)) (sym (length-drop 10 ws)))
  where
    e : length ws / 10 ≡ suc ((length ws - 10) / 10)
    e = omega arith

-- an input of fewer
pub padded-last : (ws : List ℕ) → length ws < 10 → padded ws ≡ last_ten ws ∷ []
unfolding padded tens
padded-last ws h = ap (λ (n : ℕ). tens n ws) e
  where
    e : length ws / 10 ≡ 0
    e = omega arith

-- how many tens

pub tens-length : (n : ℕ) (ws : List ℕ) → length (tens n ws) ≡ suc n
unfolding tens
tens-length zero ws = refl
tens-length (suc n) ws = ap suc (tens-length n (drop 10 ws))

pub padded-length : (ws : List ℕ) → length (padded ws) ≡ length ws / 10 + 1
unfolding padded
padded-length ws = omega (arith, tens-length (length ws / 10) ws)

-- the last ten is ten words

pub last_ten-length : (ws : List ℕ) → length ws < 10 → length (last_ten ws) ≡ 10
unfolding last_ten
last_ten-length ws h = omega (arith, length-append ws (one ∷ replicate (9 - length ws) 0), length-replicate {A = ℕ} (9 - length ws) 0)

pub last_ten-below : (ws : List ℕ) → Below ws → Below (last_ten ws)
unfolding last_ten
last_ten-below ws h = append-below ws (one ∷ replicate (9 - length ws) 0) h (cons-below (replicate (9 - length ws) 0) (lit< tt) (replicate-below (9 - length ws) {w = 0} (lit< tt)))

-- each ten of an input

-- every list is ten words, each below P
abbrev pub Tens : List (List ℕ) → Type 0
Tens [] = Unit
Tens (ten ∷ more) = (length ten ≡ 10) × Below ten × Tens more

tens-all : (n : ℕ) (ws : List ℕ) → length ws / 10 ≡ n → Below ws → Tens (tens n ws)
unfolding tens
tens-all zero ws e h = (last_ten-length ws (omega arith), last_ten-below ws h, tt)
tens-all (suc n) ws e h =
    (omega (arith, length-take 10 ws), take-below 10 ws h, tens-all n (drop 10 ws) (ap (λ (l : ℕ). l / 10) (length-drop 10 ws) ∙ rest) (drop-below 10 ws h))
  where
    rest : (length ws - 10) / 10 ≡ n
    rest = omega arith

pub padded-tens : (ws : List ℕ) → Below ws → Tens (padded ws)
unfolding padded
padded-tens ws h = tens-all (length ws / 10) ws refl h

-- the counts of the requirements, computed: 0 and 9 take one, 10 and 19 two, 20 three
pub padded-counts : (length (padded []) ≡ 1) × (length (padded (replicate 9 0)) ≡ 1) × (length (padded (replicate 10 0)) ≡ 2) × (length (padded (replicate 19 0)) ≡ 2) × (length (padded (replicate 20 0)) ≡ 3)
unfolding padded tens
padded-counts = (refl, refl, refl, refl, refl)
