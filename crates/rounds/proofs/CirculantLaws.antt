-- The circulant matrices: where two columns multiply to the identity modulo P, one undoes the other on sixteen words below P; and
-- the two columns of Tip5 do so, by computation.
-- Assumes nothing.
use mathlib.Core.Path.{◌≡◌, refl, sym, ap, ◌∙◌}
use mathlib.Core.Bool.{Bool, cond}
use mathlib.Core.List.{List}
use mathlib.Core.Logic.{⊎_elim}
use Prim.Native.Nat.{ℕ, zero, suc, ◌+◌, ◌*◌, ◌%◌, ◌<◌, ◌≤◌, zero-le}
use native.Mathlib.Nat.{eq-or-lt_of_le, le_of_eq, le_step, mul_assoc, zero-add}
use native.Mathlib.Omega.{arith}
use borrow.Author.Tests.{eq-eqb, ne_eqb}
use lib.Dec.{T, eqb, eqb→eq}
use lib.ListN.{length, get_or}
use Rattle.numbers.specs.Circulant.{entry, row_sum}
use Rattle.numbers.specs.Congruence.{Cong}
use Rattle.numbers.specs.Lists.{total}
use Rattle.numbers.specs.Modulus.{P}
use Rattle.numbers.proofs.Table.{each, each-at}
use Rattle.numbers.proofs.Congruence.{cong-eq, cong-mod, cong-mul, cong-refl, cong-remainder, cong-sym, cong-total, cong-trans}
use Rattle.numbers.proofs.Lists.{get_or-tab₀, tab-unique, total-exchange, total-mul, total-mul-right, total-same}
use Rattle.matrix.specs.Column.{mds_column}
use Rattle.rounds.specs.Constants.{inv_mds_column}
use Rattle.rounds.specs.Round.{circulant}
use Rattle.rounds.specs.Field.{Below}

-- Sums

-- totals of summands that are congruent on the range
cong-total-within : {m : ℕ} (n i : ℕ) {f g : ℕ → ℕ} → ((c : ℕ) → i ≤ c → c < i + n → Cong m (f c) (g c)) → Cong m (total n i f) (total n i g)
cong-total-within n i h =
    cong-trans (cong-total n i λ c. cong-sym cong-mod)
    (cong-trans (cong-eq (total-same n i λ c low high. (h c low high).same)) (cong-total n i λ c. cong-mod))

-- 1 where the row is the column, 0 elsewhere
abbrev unit : (r d : ℕ) → ℕ
unit r d = cond (eqb r d) 1 0

total-beyond : (n i r : ℕ) (f : ℕ → ℕ) → r < i → total n i (λ d. unit r d * f d) ≡ 0
total-beyond zero i r f h = refl
total-beyond (suc n) i r f h = rw (ne_eqb r i (λ e. omega arith)) (omega (arith, total-beyond n (suc i) r f (le_step h)))

-- a row of the identity picks its summand
total-unit : (n i r : ℕ) (f : ℕ → ℕ) → i ≤ r → r < i + n → total n i (λ d. unit r d * f d) ≡ f r
total-unit zero i r f low high = absurd (omega arith)
total-unit (suc n) i r f low high =
    ⊎_elim
    (λ (e : i ≡ r). rw (eq-eqb r i (sym e)) (omega (arith, total-beyond n (suc i) r f (le_of_eq (ap suc (sym e))), ap f e)))
    (λ (h : i < r). rw (ne_eqb r i (λ e. omega arith)) (omega (arith, total-unit n (suc i) r f h (omega arith))))
    (eq-or-lt_of_le low)

-- so does a row that is congruent to it
row-unit : {m : ℕ} (n r : ℕ) (f x : ℕ → ℕ) → r < n → ((d : ℕ) → d < n → Cong m (f d) (unit r d)) → Cong m (total n 0 (λ d. f d * x d)) (x r)
row-unit n r f x r< h =
    cong-trans
    (cong-total-within n 0 {f = λ d. f d * x d} {g = λ d. unit r d * x d} λ d low high. cong-mul (h d (omega arith)) cong-refl)
    (cong-eq (total-unit n 0 r x zero-le (omega arith)))

-- a sum of multiples of sums, summed by columns
total-total : (n : ℕ) (a : ℕ → ℕ) (b : ℕ → ℕ → ℕ) (x : ℕ → ℕ)
    → total n 0 (λ c. a c * total n 0 (λ d. b c d * x d)) ≡ total n 0 (λ d. total n 0 (λ c. a c * b c d) * x d)
total-total n a b x =
    total-same n 0 (λ c low high. sym (total-mul n 0 (a c) (λ d. b c d * x d)))
    ∙ total-exchange n n 0 0 (λ c d. a c * (b c d * x d))
    ∙ total-same n 0 λ d low high.
    total-same n 0 (λ c l h. sym (mul_assoc (a c) (b c d) (x d))) ∙ total-mul-right n 0 (x d) (λ c. a c * b c d)

-- Two circulants

-- entry (r, d) of their product
unfoldable pub product : (A B : List ℕ) (r d : ℕ) → ℕ
product A B r d = total 16 0 (λ c. entry A r c * entry B c d)

-- a row of the one after the other
row_sum-circulant : (A B s : List ℕ) (r : ℕ) → Cong P (row_sum A (circulant B s) r) (total 16 0 (λ d. product A B r d * get_or s d 0))
unfolding row_sum circulant product
row_sum-circulant A B s r =
    cong-trans
    (cong-total-within 16 0 λ c low high.
    cong-trans
    (cong-eq (ap (λ (n : ℕ). entry A r c * n) (get_or-tab₀ 16 (λ k. row_sum B s k % P) c (rw zero-add at high))))
    (cong-mul cong-refl cong-mod))
    (cong-eq (total-total 16 (entry A r) (entry B) (λ d. get_or s d 0)))

-- it is that of the identity modulo P
abbrev right : (A B : List ℕ) (r d : ℕ) → Bool
right A B r d = eqb (product A B r d % P) (unit r d % P)

-- at all places
unfoldable pub identity : (A B : List ℕ) → Bool
identity A B = each (λ r. each (λ d. right A B r d) 16 0) 16 0

pub circulant-undone : (A B : List ℕ) → T (identity A B) → (s : List ℕ) → length s ≡ 16 → Below s → circulant A (circulant B s) ≡ s
unfolding circulant identity
circulant-undone A B t s e h =
    tab-unique s (λ r. row_sum A (circulant B s) r % P) e λ r r<.
    sym
    (cong-remainder
    (cong-trans (row_sum-circulant A B s r)
    (row-unit 16 r (product A B r) (λ d. get_or s d 0) r< λ d d<.
    record { same = eqb→eq _ _ (each-at (λ c. right A B r c) 16 (each-at (λ q. each (λ c. right A B q c) 16 0) 16 t r r<) d d<) }))
    (h r))

-- The columns of Tip5

pub inv_mds-mds-identity : T (identity inv_mds_column mds_column)
unfolding identity product inv_mds_column
inv_mds-mds-identity = tt

pub mds-inv_mds-identity : T (identity mds_column inv_mds_column)
unfolding identity product inv_mds_column
mds-inv_mds-identity = tt

pub inv_mds-mds : (s : List ℕ) → length s ≡ 16 → Below s → circulant inv_mds_column (circulant mds_column s) ≡ s
inv_mds-mds = circulant-undone inv_mds_column mds_column inv_mds-mds-identity

pub mds-inv_mds : (s : List ℕ) → length s ≡ 16 → Below s → circulant mds_column (circulant inv_mds_column s) ≡ s
mds-inv_mds = circulant-undone mds_column inv_mds_column mds-inv_mds-identity
