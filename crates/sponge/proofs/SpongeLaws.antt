-- The sponge's laws: sixteen words stay sixteen, words below P stay below P, and an absorb and a squeeze are undone.
-- Assumes nothing.
use mathlib.Core.List.{List, ◌++◌}
use mathlib.Core.Path.{◌≡◌, refl, ap, ◌∙◌}
use Prim.Native.Nat.{ℕ}
use native.Mathlib.Omega.{arith}
use lib.ListN.{drop, length, replicate, take, length-append, length-drop, length-take, take-append-drop}
use lib.Seq.{drop_at}
use Rattle.rounds.specs.Field.{Below}
use Rattle.rounds.proofs.RoundLaws.{permuted-below, permuted-length}
use Rattle.rounds.proofs.RoundTrip.{inv_permuted-permuted}
use Rattle.refusals.proofs.JudgeLaws.{all_below-below}
use Rattle.sponge.specs.declared.Domain.{Domain}
use Rattle.sponge.specs.declared.Domain.TheVariants.{VariableLength, FixedLength}
use Rattle.sponge.specs.declared.Tip5.{Tip5}
use Rattle.sponge.specs.Sponge.{absorbed, one, overwrite, permute, rate, squeezed, start, unabsorbed, unpermute, unsqueezed}
use Rattle.sponge.proofs.BelowLaws.{append-below, drop-below, take-below}

-- The starts

pub start-length : (domain : Domain) → length (start domain).state ≡ 16
unfolding start
start-length VariableLength = refl
start-length FixedLength = refl

pub start_below : (domain : Domain) → Below (start domain).state
unfolding start
start_below VariableLength = all_below-below (replicate 16 0) tt
start_below FixedLength = all_below-below (replicate 10 0 ++ replicate 6 one) tt

-- Words 0 to 9

pub rate-length : (s : Tip5) → length s.state ≡ 16 → length (rate s) ≡ 10
unfolding rate
rate-length s e = omega (arith, length-take 10 s.state)

pub rate-below : (s : Tip5) → Below s.state → Below (rate s)
unfolding rate
rate-below s h = take-below 10 s.state h

pub overwrite-length : (ten : List ℕ) (s : Tip5) → length ten ≡ 10 → length s.state ≡ 16 → length (overwrite ten s).state ≡ 16
unfolding overwrite
overwrite-length ten s e l = omega (arith, length-append ten (drop 10 s.state), length-drop 10 s.state)

pub overwrite_below : (ten : List ℕ) (s : Tip5) → Below ten → Below s.state → Below (overwrite ten s).state
unfolding overwrite
overwrite_below ten s ht hs = append-below ten (drop 10 s.state) ht (drop-below 10 s.state hs)

-- what was overwritten is put back
pub overwrite-rate : (ten : List ℕ) (s : Tip5) → length ten ≡ 10 → overwrite (rate s) (overwrite ten s) ≡ s
unfolding overwrite rate
overwrite-rate ten s e =
    λ i. record { state = (ap (λ (r : List ℕ). take 10 s.state ++ r) (drop_at ten (drop 10 s.state) 10 e) ∙ take-append-drop 10 s.state) i }

-- The permutation

pub permute-length : (s : Tip5) → length (permute s).state ≡ 16
unfolding permute
permute-length s = permuted-length s.state

pub permute-below : (s : Tip5) → Below (permute s).state
unfolding permute
permute-below s = permuted-below s.state

pub unpermute-permute : (s : Tip5) → length s.state ≡ 16 → Below s.state → unpermute (permute s) ≡ s
unfolding permute unpermute
unpermute-permute s e h = λ i. record { state = inv_permuted-permuted s.state e h i }

-- A step, whatever it is given

pub squeezed-length : (s : Tip5) → length (squeezed s).state ≡ 16
unfolding squeezed
squeezed-length s = permute-length s

pub squeezed-below : (s : Tip5) → Below (squeezed s).state
unfolding squeezed
squeezed-below s = permute-below s

pub absorbed-length : (ten : List ℕ) (s : Tip5) → length (absorbed ten s).state ≡ 16
unfolding absorbed
absorbed-length ten s = permute-length (overwrite ten s)

pub absorbed_below : (ten : List ℕ) (s : Tip5) → Below (absorbed ten s).state
unfolding absorbed
absorbed_below ten s = permute-below (overwrite ten s)

-- A step undone

pub unsqueezed-squeezed : (s : Tip5) → length s.state ≡ 16 → Below s.state → unsqueezed (squeezed s) ≡ s
unfolding squeezed unsqueezed
unsqueezed-squeezed s e h = unpermute-permute s e h

pub unabsorbed-absorbed : (ten : List ℕ) (s : Tip5) → length ten ≡ 10 → Below ten → length s.state ≡ 16 → Below s.state → unabsorbed (rate s) (absorbed ten s) ≡ s
unfolding absorbed unabsorbed
unabsorbed-absorbed ten s et ht es hs =
    ap (overwrite (rate s)) (unpermute-permute (overwrite ten s) (overwrite-length ten s et es) (overwrite_below ten s ht hs)) ∙ overwrite-rate ten s et
