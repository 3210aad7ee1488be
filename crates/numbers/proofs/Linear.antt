-- Linear forms modulo m: a word that sums, differences and multiples make of some words is a row of coefficients times those words.
-- A proof about such code cites one law for each step, and at the end compares two rows of numbers, which computes.
-- Assumes nothing.
use mathlib.Core.Path.{◌≡◌, sym, ap, ◌∙◌}
use mathlib.Core.List.{List, [], ◌∷◌}
use Prim.Native.Nat.{ℕ, zero, suc, ◌+◌, ◌-◌, ◌*◌, ◌%◌, ◌<◌}
use native.Mathlib.Nat.{add-suc, add-zero, mod-eq_of_lt, mod-lt, mul_comm, mul-zero, suc-add, zero-add, zero-lt-suc, zero-mod}
use native.Mathlib.Omega.{arith}
use lib.ListN.{get_or, get_or-map}
use Rattle.numbers.specs.Congruence.{Cong}
use Rattle.numbers.specs.Linear.{unit, ◌⊕◌, ◌⊛◌, dot, times}
use Rattle.numbers.proofs.Congruence.{cong-add, cong-add-cancel, cong-eq, cong-mod, cong-mul, cong-multiple, cong-refl, cong-sym, cong-trans}

-- Rows

-- a sum of rows gives the sum
pub dot-plus : (a b s : List ℕ) (k : ℕ) → dot (a ⊕ b) s k ≡ dot a s k + dot b s k
dot-plus [] b s k = sym (zero-add (dot b s k))
dot-plus (x ∷ a) [] s k = sym (add-zero (dot (x ∷ a) s k))
dot-plus (x ∷ a) (y ∷ b) s k = omega (arith, dot-plus a b s (suc k))

-- a multiple of a row gives the multiple
pub dot-multiple : (n : ℕ) (a s : List ℕ) (k : ℕ) → dot (n ⊛ a) s k ≡ n * dot a s k
dot-multiple n [] s k = sym (mul-zero n)
dot-multiple n (x ∷ a) s k = omega (arith, dot-multiple n a s (suc k))

-- the row of one word gives that word
pub dot-unit : (j : ℕ) (s : List ℕ) (k : ℕ) → dot (unit j) s k ≡ get_or s (k + j) 0
dot-unit zero s k = rw (add-zero k) (omega arith)
dot-unit (suc j) s k = rw (add-suc, ← suc-add) (omega (arith, dot-unit j s (suc k)))

-- the entries of a row modulo m
abbrev pub reduced : (m : ℕ) (row : List ℕ) → List ℕ
reduced m [] = []
reduced m (x ∷ row) = (x % m) ∷ reduced m row

-- which give the same modulo m
pub dot-reduced : {m : ℕ} (a s : List ℕ) (k : ℕ) → Cong m (dot (reduced m a) s k) (dot a s k)
dot-reduced [] s k = cong-refl
dot-reduced (x ∷ a) s k = cong-add (cong-mul cong-mod cong-refl) (dot-reduced a s (suc k))

-- Forms

-- the word w is the row times the words s, modulo m
pub record Form (m : ℕ) (s row : List ℕ) (w : ℕ) : Type 0 where
  pub cong : Cong m w (dot row s 0)

-- a word itself
pub form-input : (m : ℕ) (s : List ℕ) (j : ℕ) → Form m s (unit j) (get_or s j 0)
form-input m s j = record { cong = cong-eq (sym (dot-unit j s 0 ∙ ap (λ (k : ℕ). get_or s k 0) (zero-add j))) }

-- a word that is congruent to such a word
pub form-cong : {m : ℕ} {s a : List ℕ} {w x : ℕ} → Cong m w x → Form m s a x → Form m s a w
form-cong e p = record { cong = cong-trans e p.cong }

-- a sum
pub form-sum : {m : ℕ} {s a b : List ℕ} {x y : ℕ} → Form m s a x → Form m s b y → Form m s (a ⊕ b) (x + y)
form-sum {s = s} {a = a} {b = b} p q =
    record { cong = cong-trans (cong-add p.cong q.cong) (cong-eq (sym (dot-plus a b s 0))) }

-- a multiple
pub form-multiple : {m : ℕ} {s a : List ℕ} {x : ℕ} (n : ℕ) → Form m s a x → Form m s (n ⊛ a) (n * x)
form-multiple {s = s} {a = a} n p =
    record { cong = cong-trans (cong-mul cong-refl p.cong) (cong-eq (sym (dot-multiple n a s 0))) }

-- The steps of a program

-- what y lacks to m is m - 1 times y
cong-lack : (m y : ℕ) → Cong m (m - y % m) ((m - 1) * y)
cong-lack zero y = cong-eq (omega arith)
cong-lack (suc m) y =
    let r = y % suc m in
    let less : suc m - 1 ≡ m = omega arith in
    let whole : suc m - r + r ≡ 0 + 1 * suc m = omega (arith, mod-lt y (zero-lt-suc m)) in
    let turns : 0 + r * suc m ≡ m * r + r = omega arith in
    rw less
    (cong-trans
    (cong-add-cancel r
    (cong-trans (cong-eq whole) (cong-trans (cong-multiple 1) (cong-trans (cong-sym (cong-multiple r)) (cong-eq turns)))))
    (cong-mul cong-refl cong-mod))

-- a sum modulo m
pub form-plus : {m : ℕ} {s a b : List ℕ} {x y r : ℕ} → Form m s a x → Form m s b y → r ≡ (x + y) % m → Form m s (a ⊕ b) r
form-plus p q e = form-cong (cong-trans (cong-eq e) cong-mod) (form-sum p q)

-- a product with a constant modulo m
pub form-times : {m : ℕ} {s a : List ℕ} {x r : ℕ} → Form m s a x → (n : ℕ) → r ≡ x * n % m → Form m s (n ⊛ a) r
form-times {x = x} p n e =
    form-cong (cong-trans (cong-eq e) (cong-trans cong-mod (cong-eq (mul_comm x n)))) (form-multiple n p)

-- a difference modulo m
pub form-minus : {m : ℕ} {s a b : List ℕ} {x y r : ℕ} → Form m s a x → Form m s b y
    → r ≡ (x + (m - y % m)) % m → Form m s (a ⊕ (m - 1) ⊛ b) r
form-minus {m} {y = y} p q e =
    form-cong (cong-trans (cong-eq e) (cong-trans cong-mod (cong-add cong-refl (cong-lack m y))))
    (form-sum p (form-multiple (m - 1) q))

-- the end: a row that agrees modulo m gives the word itself
pub form-word : {m : ℕ} {s a : List ℕ} {w : ℕ} → Form m s a w → w < m → (b : List ℕ) → reduced m a ≡ reduced m b
    → w ≡ dot b s 0 % m
form-word {m} {s} {a} p w< b e =
    sym (mod-eq_of_lt w<)
    ∙ p.cong.same
    ∙ sym (dot-reduced a s 0).same
    ∙ ap (λ (row : List ℕ). dot row s 0 % m) e
    ∙ (dot-reduced b s 0).same

-- Matrices

-- the row that a makes of the rows of a matrix from row k on
abbrev pub combined : (a : List ℕ) (rows : List (List ℕ)) (k : ℕ) → List ℕ
combined [] rows k = []
combined (x ∷ a) rows k = x ⊛ get_or rows k [] ⊕ combined a rows (suc k)

-- each word of a list is its row of a matrix times the words s
pub record Forms (m : ℕ) (s : List ℕ) (rows : List (List ℕ)) (words : List ℕ) : Type 0 where
  pub form : (k : ℕ) → Form m s (get_or rows k []) (get_or words k 0)

-- a matrix times words makes such a list
pub forms-times : {m : ℕ} {s words : List ℕ} (rows : List (List ℕ)) → words ≡ times m rows s → Forms m s rows words
forms-times {m} {s} {words} rows e = record { form = λ k. record { cong = cong-trans (cong-eq (entry k)) cong-mod } }
  where
    entry : (k : ℕ) → get_or words k 0 ≡ dot (get_or rows k []) s 0 % m
    entry k =
        ap (λ (l : List ℕ). get_or l k 0) e
        ∙ ap (λ (d : ℕ). get_or (times m rows s) k d) (sym (zero-mod m))
        ∙ get_or-map (λ row. dot row s 0 % m) rows k []

-- what a row makes of such words is what one row makes of the words s
pub form-combined : {m : ℕ} {s words : List ℕ} {rows : List (List ℕ)} → Forms m s rows words → (a : List ℕ) (k : ℕ)
    → Form m s (combined a rows k) (dot a words k)
form-combined f [] k = record { cong = cong-refl }
form-combined f (x ∷ a) k = form-sum (form-multiple x (f.form k)) (form-combined f a (suc k))

-- so a form of such words is a form of the words s
pub form-through : {m : ℕ} {s words a : List ℕ} {rows : List (List ℕ)} {w : ℕ} → Forms m s rows words → Form m words a w
    → Form m s (combined a rows 0) w
form-through {a = a} f p = form-cong p.cong (form-combined f a 0)
