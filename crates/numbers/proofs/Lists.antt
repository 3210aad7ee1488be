-- The laws of a list that is made by a function of its places, and of sums over a range.
-- Assumes nothing.
use mathlib.Core.Path.{◌≡◌, refl, sym, ap, ap₂, ◌∙◌}
use mathlib.Core.List.{List, [], ◌∷◌, ◌++◌}
use Prim.Native.Nat.{ℕ, zero, suc, ◌+◌, ◌-◌, ◌*◌, ◌≤◌, ◌<◌, zero-le}
use native.Mathlib.Nat.{add-suc, add-zero, le_of_suc-le-suc, le_refl, mul-add, mul_comm, mul-zero, not-suc-le-zero, suc-add, zero-add}
use native.Mathlib.Numerals.{add-one}
use native.Mathlib.Omega.{arith}
use lib.ListN.{length, get_or}
use lib.Seq.{ext_get_or}
use Rattle.numbers.specs.Lists.{tab, total}

-- Lists

-- as many entries as asked for
pub length-tab : (n i : ℕ) (f : ℕ → ℕ) → length (tab n i f) ≡ n
length-tab zero i f = refl
length-tab (suc n) i f = ap suc (length-tab n (suc i) f)

-- the entry at place k
pub get_or-tab : (n i : ℕ) (f : ℕ → ℕ) (k : ℕ) → k < n → get_or (tab n i f) k 0 ≡ f (i + k)
get_or-tab zero i f k h = absurd (not-suc-le-zero h)
get_or-tab (suc n) i f zero h = ap f (sym (add-zero i))
get_or-tab (suc n) i f (suc k) h = get_or-tab n (suc i) f k (le_of_suc-le-suc h) ∙ ap f (suc-add i k ∙ sym (add-suc i k))

-- the same where the places are counted from 0
pub get_or-tab₀ : (n : ℕ) (f : ℕ → ℕ) (k : ℕ) → k < n → get_or (tab n 0 f) k 0 ≡ f k
get_or-tab₀ n f k h = get_or-tab n 0 f k h ∙ ap f (zero-add k)

-- what holds of 0 and of each entry holds of whatever is read off the list, past its end too
pub get_or-tab-all : (Q : ℕ → Type 0) (n i : ℕ) (f : ℕ → ℕ) → Q 0 → ((c : ℕ) → Q (f c)) → (k : ℕ) → Q (get_or (tab n i f) k 0)
get_or-tab-all Q zero i f none all k = none
get_or-tab-all Q (suc n) i f none all zero = all i
get_or-tab-all Q (suc n) i f none all (suc k) = get_or-tab-all Q n (suc i) f none all k

-- functions that agree on the range make the same list
pub tab-same : (n i : ℕ) {f g : ℕ → ℕ} → ((c : ℕ) → i ≤ c → c < i + n → f c ≡ g c) → tab n i f ≡ tab n i g
tab-same zero i e = refl
tab-same (suc n) i e =
    ap₂ ◌∷◌ (e i (le_refl i) (omega arith)) (tab-same n (suc i) λ c low high. e c (omega arith) (omega arith))

-- a list whose entries are the function's values is the list that it makes
pub tab-unique : (xs : List ℕ) {n : ℕ} (f : ℕ → ℕ) → length xs ≡ n → ((k : ℕ) → k < n → get_or xs k 0 ≡ f k) → tab n 0 f ≡ xs
tab-unique xs {n} f e h =
    ext_get_or 0 (tab n 0 f) xs (length-tab n 0 f ∙ sym e)
    λ k k<. let l : k < n = rw length-tab at k< in get_or-tab₀ n f k l ∙ sym (h k l)

-- so every list is made by the function that reads its entries
pub tab-get_or : (xs : List ℕ) {n : ℕ} → length xs ≡ n → tab n 0 (λ k. get_or xs k 0) ≡ xs
tab-get_or xs e = tab-unique xs (λ k. get_or xs k 0) e λ k h. refl

-- what is left of a list as a loop over it goes on: the next entry, and what is left then
pub tab-next : (n i : ℕ) (f : ℕ → ℕ) → i < n → tab (n - i) i f ≡ f i ∷ tab (n - (i + 1)) (i + 1) f
tab-next n i f h =
    let e : n - i ≡ suc (n - (i + 1)) = omega arith in
    ap (λ (k : ℕ). tab k i f) e ∙ ap (λ (k : ℕ). f i ∷ tab (n - (i + 1)) k f) (sym (add-one i))

-- nothing is left at its end
pub tab-none : (n i : ℕ) (f : ℕ → ℕ) → n ≤ i → tab (n - i) i f ≡ []
tab-none n i f h =
    let e : n - i ≡ 0 = omega arith in
    ap (λ (k : ℕ). tab k i f) e

-- one entry more, at the end
pub tab-snoc : (n i : ℕ) (f : ℕ → ℕ) → tab (suc n) i f ≡ tab n i f ++ (f (i + n) ∷ [])
tab-snoc zero i f = ap (λ (k : ℕ). f k ∷ []) (sym (add-zero i))
tab-snoc (suc n) i f =
    ap (λ (l : List ℕ). f i ∷ l) (tab-snoc n (suc i) f ∙ ap (λ (k : ℕ). tab n (suc i) f ++ (f k ∷ [])) (suc-add i n ∙ sym (add-suc i n)))

-- Sums

-- functions that agree on the range have the same sum
pub total-same : (n i : ℕ) {f g : ℕ → ℕ} → ((c : ℕ) → i ≤ c → c < i + n → f c ≡ g c) → total n i f ≡ total n i g
total-same zero i e = refl
total-same (suc n) i e = ap₂ ◌+◌ (e i (le_refl i) (omega arith)) (total-same n (suc i) λ c low high. e c (omega arith) (omega arith))

-- the sum of nothing but zeros
pub total-zero : (n i : ℕ) → total n i (λ c. 0) ≡ 0
total-zero zero i = refl
total-zero (suc n) i = zero-add (total n (suc i) (λ c. 0)) ∙ total-zero n (suc i)

-- a sum of sums
pub total-add : (n i : ℕ) (f g : ℕ → ℕ) → total n i (λ c. f c + g c) ≡ total n i f + total n i g
total-add zero i f g = refl
total-add (suc n) i f g = omega (arith, total-add n (suc i) f g)

-- a common factor
pub total-mul : (n i k : ℕ) (f : ℕ → ℕ) → total n i (λ c. k * f c) ≡ k * total n i f
total-mul zero i k f = sym (mul-zero k)
total-mul (suc n) i k f = ap (λ (s : ℕ). k * f i + s) (total-mul n (suc i) k f) ∙ sym (mul-add k (f i) (total n (suc i) f))

-- the same with the factor on the right
pub total-mul-right : (n i k : ℕ) (f : ℕ → ℕ) → total n i (λ c. f c * k) ≡ total n i f * k
total-mul-right n i k f = total-same n i (λ c low high. mul_comm (f c) k) ∙ total-mul n i k f ∙ mul_comm k (total n i f)

-- a sum over rows of sums over columns is the sum over columns of sums over rows
pub total-exchange : (n m i j : ℕ) (f : ℕ → ℕ → ℕ)
    → total n i (λ a. total m j (λ b. f a b)) ≡ total m j (λ b. total n i (λ a. f a b))
total-exchange zero m i j f = sym (total-zero m j)
total-exchange (suc n) m i j f =
    ap (λ (s : ℕ). total m j (f i) + s) (total-exchange n m (suc i) j f)
    ∙ sym (total-add m j (f i) (λ b. total n (suc i) (λ a. f a b)))

-- larger summands have the larger sum
pub total-le : (n i : ℕ) {f g : ℕ → ℕ} → ((c : ℕ) → f c ≤ g c) → total n i f ≤ total n i g
total-le zero i h = zero-le
total-le (suc n) i h = omega (arith, h i, total-le n (suc i) h)

-- what is left of a sum loses its first summand
pub total-next : (n i : ℕ) (f : ℕ → ℕ) → i < n → total (n - i) i f ≡ f i + total (n - (i + 1)) (i + 1) f
total-next n i f h =
    ap (λ (k : ℕ). total k i f) (left h) ∙ ap (λ (j : ℕ). f i + total (n - (i + 1)) j f) (sym (add-one i))
  where
    left : i < n → n - i ≡ suc (n - (i + 1))
    left h = omega arith
