-- The laws of decimal numbers and of the numbers of a line.
-- Assumes nothing.
use mathlib.Core.Path.{◌≡◌, refl, sym, ap, ◌∙◌}
use mathlib.Core.List.{List, [], ◌∷◌, ◌++◌, append_assoc, append-nil}
use mathlib.Core.Logic.{◌⊎◌, inl, inr, ⊎_elim}
use Prim.Native.Nat.{ℕ, zero, suc, ◌+◌, ◌-◌, ◌/◌, ◌^◌, ◌≤◌, ◌<◌}
use native.Mathlib.Decide.{dec_lt}
use native.Mathlib.Nat.{le_refl, not-suc-le-zero}
use native.Mathlib.Omega.{arith}
use borrow.Author.Tests.{le-leb, le-ltb, lt-ltb}
use borrow.Rule.Slice.PartMut.{mid_of, put_mid}
use lib.ListN.{length}
use Rattle.std.specs.Fmt as std
use Rattle.std.proofs.lemmas.Fmt.{decimal_by_steps}
use Rattle.lines.specs.Line.{bounded_draw_line, decimal, decimal_within, digit, draw_line, index_limit, joined, line, newline, space, spaced}
use Rattle.lines.specs.Put.{Front}
use Rattle.lines.proofs.PutLaws.{front-more, front-same}

-- Decimal numbers

-- a number below 10 has one digit
within-small : (d n : ℕ) → n < 10 → decimal_within d n ≡ digit n ∷ []
unfolding decimal_within
within-small zero n h = refl
within-small (suc d) n h = simp (lt-ltb n 10 h)

-- any other has the digits of its tenth, and one more
within-large : (d n : ℕ) → 10 ≤ n → decimal_within (suc d) n ≡ decimal_within d (n / 10) ++ (digit n ∷ [])
unfolding decimal_within
within-large d n h = simp (le-ltb n 10 h)

-- one of the two
small-or-large : (n : ℕ) → (n < 10) ⊎ (10 ≤ n)
small-or-large n = elim (dec_lt n 10) [ yes h ↦ inl h | no h ↦ inr (omega arith) ]

-- any depth that bounds the number gives its digits
within-enough : (d e n : ℕ) → n ≤ d → n ≤ e → decimal_within d n ≡ decimal_within e n
within-enough zero e n hd he = within-small zero n (omega arith) ∙ sym (within-small e n (omega arith))
within-enough (suc d) zero n hd he = within-small (suc d) n (omega arith) ∙ sym (within-small zero n (omega arith))
within-enough (suc d) (suc e) n hd he =
    ⊎_elim (λ (h : n < 10). within-small (suc d) n h ∙ sym (within-small (suc e) n h))
    (λ (h : 10 ≤ n). within-large d n h
    ∙ ap (λ (l : List ℕ). l ++ (digit n ∷ [])) (within-enough d e (n / 10) (omega arith) (omega arith))
    ∙ sym (within-large e n h))
    (small-or-large n)

-- so it is with the depth that a number has by itself

pub decimal-small : {n : ℕ} → n < 10 → decimal n ≡ digit n ∷ []
unfolding decimal
decimal-small {n} h = within-small n n h

pub decimal-large : {n : ℕ} → 10 ≤ n → decimal n ≡ decimal (n / 10) ++ (digit n ∷ [])
unfolding decimal
decimal-large {n = zero} h = absurd (not-suc-le-zero h)
decimal-large {n = suc n} h =
    within-large n (suc n) h
    ∙ ap (λ (l : List ℕ). l ++ (digit (suc n) ∷ [])) (within-enough n (suc n / 10) (suc n / 10) (omega arith) (le_refl (suc n / 10)))

-- std's digits are these, for a number of 64 bits
pub decimal-std : (n : ℕ) → n < 2 ^ 64 → decimal n ≡ std.decimal n
decimal-std =
    decimal_by_steps (λ (n : ℕ) (ds : List ℕ). decimal n ≡ ds)
    (λ n h. decimal-small h ∙ ap (λ (d : ℕ). (48 + d) ∷ []) (omega arith))
    (λ n ds h e. decimal-large h ∙ ap (λ (l : List ℕ). l ++ (digit n ∷ [])) e)

-- The numbers of a line

-- one number more
pub spaced-more : (ns : List ℕ) (n : ℕ) → spaced (ns ++ n ∷ []) ≡ spaced ns ++ space ∷ decimal n
unfolding spaced
spaced-more [] n = ap (λ (l : List ℕ). space ∷ l) (append-nil (decimal n))
spaced-more (x ∷ xs) n =
    ap (λ (l : List ℕ). space ∷ decimal x ++ l) (spaced-more xs n) ∙ sym (append_assoc (space ∷ decimal x) (spaced xs) (space ∷ decimal n))

-- a head that ends in a space, and numbers
pub line-spaced : (head ns : List ℕ) → 0 < length ns → line (head ++ space ∷ []) ns ≡ (head ++ spaced ns) ++ newline ∷ []
unfolding line joined spaced
line-spaced head [] h = absurd (not-suc-le-zero h)
line-spaced head (n ∷ ns) h = ap (λ (l : List ℕ). l ++ newline ∷ []) (append_assoc head (space ∷ []) (joined (n ∷ ns)))

-- A line that is being written: its head and the numbers that are passed stand in front

-- one number more
pub front-number : {k l m : List ℕ} {at count : ℕ} (n : ℕ) (head ns : List ℕ) {x : ℕ} → x < 2 ^ 64 → length l ≡ n
    → Front k (head ++ spaced ns) l at → Front (mid_of at (n - at) l) (space ∷ std.decimal x) m count
    → Front k (head ++ spaced (ns ++ x ∷ [])) (put_mid at (n - at) l m) (at + count)
front-number n head ns {x} small long p q =
    front-same
    (append_assoc head (spaced ns) (space ∷ std.decimal x)
    ∙ ap (λ (l : List ℕ). head ++ l) (ap (λ (d : List ℕ). spaced ns ++ space ∷ d) (sym (decimal-std x small)) ∙ sym (spaced-more ns x)))
    (front-more n long p q)

-- the newline
pub front-line : {k l m : List ℕ} {at count : ℕ} (n : ℕ) (head ns : List ℕ) → 0 < length ns → length l ≡ n
    → Front k (head ++ spaced ns) l at → Front (mid_of at (n - at) l) (newline ∷ []) m count
    → Front k (line (head ++ space ∷ []) ns) (put_mid at (n - at) l m) (at + count)
front-line n head ns some long p q = front-same (sym (line-spaced head ns some)) (front-more n long p q)

-- The line of a draw

-- as many indices as a line may have
pub draw-bounded : (squeezes : ℕ) (indices : List ℕ) → length indices ≤ index_limit → bounded_draw_line squeezes indices ≡ draw_line squeezes indices
unfolding bounded_draw_line
draw-bounded squeezes indices h = simp (le-leb _ _ h)
