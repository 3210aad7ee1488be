-- A row sum by the 32-bit halves of the words, as the generated function is handed them.
-- Assumes nothing.
use mathlib.Core.List.{List}
use mathlib.Core.Path.{◌≡◌, ap, sym, ◌∙◌}
use Prim.Native.Nat.{ℕ, ◌+◌, ◌-◌, ◌*◌, ◌/◌, ◌%◌, ◌^◌, ◌<◌}
use native.Mathlib.Nat.{div-add-mod', div-lt_iff_lt-mul, mod-lt}
use native.Mathlib.Omega.{arith}
use lib.Dec.{lit<}
use lib.ListN.{get_or}
use Rattle.numbers.specs.Circulant.{row_sum}
use Rattle.numbers.specs.Lists.{tab, total}
use Rattle.numbers.proofs.Lists.{get_or-tab-all, total-add, total-mul-right, total-same}
use Rattle.matrix.specs.Column.{mds_column}
use Rattle.matrix.proofs.Small.{generated-exact, generated-sixteenth}

-- the lower and the upper half of each word
abbrev pub lower : List ℕ → List ℕ
lower s = tab 16 0 (λ i. get_or s i 0 % 2 ^ 32)

abbrev pub upper : List ℕ → List ℕ
upper s = tab 16 0 (λ i. get_or s i 0 / 2 ^ 32)

lower-small : (s : List ℕ) (k : ℕ) → get_or (lower s) k 0 < 2 ^ 32
lower-small s = get_or-tab-all (λ n. n < 2 ^ 32) 16 0 (λ i. get_or s i 0 % 2 ^ 32) (lit< tt) (λ c. mod-lt _ (lit< tt))

upper-small : (s : List ℕ) → ((k : ℕ) → get_or s k 0 < 2 ^ 64) → (k : ℕ) → get_or (upper s) k 0 < 2 ^ 32
upper-small s words =
    get_or-tab-all (λ n. n < 2 ^ 32) 16 0 (λ i. get_or s i 0 / 2 ^ 32) (lit< tt) (λ c. (div-lt_iff_lt-mul (lit< tt)).1 (words c))

-- one summand, by the halves of its word
summand : (m w : ℕ) → m * w ≡ m * (w % 2 ^ 32) + m * (w / 2 ^ 32) * 2 ^ 32
summand m w = ap (λ (n : ℕ). m * n) (sym (div-add-mod' w (2 ^ 32))) ∙ by_parts m (w / 2 ^ 32) (w % 2 ^ 32)
  where
    by_parts : (m q r : ℕ) → m * (q * 2 ^ 32 + r) ≡ m * r + m * q * 2 ^ 32
    by_parts m q r = omega arith

-- a row sum is that of the lower halves and 2 ^ 32 times that of the upper ones
pub row_sum-halves : (column s : List ℕ) (r : ℕ) → row_sum column s r ≡ row_sum column (lower s) r + row_sum column (upper s) r * 2 ^ 32
unfolding row_sum
row_sum-halves column s r =
    let m : ℕ → ℕ = λ c. get_or column ((16 + r - c) % 16) 0 in
    let low : ℕ → ℕ = λ c. m c * (get_or s c 0 % 2 ^ 32) in
    let high : ℕ → ℕ = λ c. m c * (get_or s c 0 / 2 ^ 32) in
    total-same 16 0 {f = λ c. m c * get_or s c 0} {g = λ c. low c + high c * 2 ^ 32} (λ c l u. summand (m c) (get_or s c 0))
    ∙ total-add 16 0 low (λ c. high c * 2 ^ 32)
    ∙ ap (λ (n : ℕ). total 16 0 low + n) (total-mul-right 16 0 (2 ^ 32) high)

-- what the two outcomes of the generated function make up
pub halves-joined : (s : List ℕ) → ((k : ℕ) → get_or s k 0 < 2 ^ 64) → (i : ℕ) → (16 * row_sum mds_column (lower s) i) % 2 ^ 64 / 16 + (16 * row_sum mds_column (upper s) i) % 2 ^ 64 * 2 ^ 28 ≡ row_sum mds_column s i
halves-joined s words i =
    (λ j. generated-sixteenth (lower s) (lower-small s) i j + generated-exact (upper s) (upper-small s words) i j * 2 ^ 28)
    ∙ ap (λ (n : ℕ). row_sum mds_column (lower s) i + n) (scaled (row_sum mds_column (upper s) i))
    ∙ sym (row_sum-halves mds_column s i)
  where
    scaled : (n : ℕ) → 16 * n * 2 ^ 28 ≡ n * 2 ^ 32
    scaled n = omega arith
