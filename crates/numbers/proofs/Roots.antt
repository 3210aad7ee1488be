-- Powers modulo P: 7 generates, hence the power by 4 * (P - 1) + 1 leads back, hence seventh powers and seventh roots undo each other.
-- This stands in for "P is prime". Assumes nothing.
use mathlib.Core.Path.{◌≡◌, refl, ap, ◌∙◌}
use mathlib.Core.List.{List, [], ◌∷◌, ◌++◌}
use Prim.Native.Nat.{ℕ, ◌+◌, ◌-◌, ◌*◌, ◌%◌, ◌^◌, ◌<◌}
use native.Mathlib.Nat.{mul_comm}
use lib.Dec.{lit<}
use lib.ListN.{replicate}
use Rattle.numbers.specs.Modulus.{P, root_exponent}
use Rattle.numbers.proofs.Power.{pow_mod}
use Rattle.numbers.proofs.Congruence.{mod-pow-pow}
use Rattle.numbers.proofs.Generator.{Certificate, power-returns}
use Rattle.numbers.proofs.Trial.{trial}

-- the primes of P - 1
factors : List ℕ
factors = replicate 32 2 ++ (3 ∷ 5 ∷ 17 ∷ 257 ∷ 65537 ∷ [])

-- 7 generates the numbers from 1 to P - 1
seven-generates : Certificate (P - 1) 7 factors
unfolding factors pow_mod trial
seven-generates = record { whole = refl; one = refl; tested = tt }

-- the power by 4 * (P - 1) + 1 leads back
pub power-returns-P : (x : ℕ) → x < P → x ^ (4 * (P - 1) + 1) % P ≡ x
power-returns-P = power-returns seven-generates (lit< tt) 4

-- what the exponent of the root is chosen for
pub seven-roots : 7 * root_exponent ≡ 4 * (P - 1) + 1
seven-roots = refl

-- the power by two exponents of that product, one after the other, leads back
two-powers : (j k : ℕ) → j * k ≡ 4 * (P - 1) + 1 → (x : ℕ) → x < P → (x ^ j % P) ^ k % P ≡ x
two-powers j k e x x< = mod-pow-pow x j k P ∙ ap (λ (i : ℕ). x ^ i % P) e ∙ power-returns-P x x<

-- a seventh power, then the root
pub seventh-then-root : (x : ℕ) → x < P → (x ^ 7 % P) ^ root_exponent % P ≡ x
seventh-then-root = two-powers 7 root_exponent seven-roots

-- a root, then the seventh power
pub root-then-seventh : (x : ℕ) → x < P → (x ^ root_exponent % P) ^ 7 % P ≡ x
root-then-seventh = two-powers root_exponent 7 (mul_comm root_exponent 7 ∙ seven-roots)
