-- How long decimal numbers and lines are, and the line of more indices than a line may have.
-- Assumes nothing.
use mathlib.Core.Path.{◌≡◌, refl, ap, sym, ◌∙◌}
use mathlib.Core.List.{List, [], ◌∷◌, ◌++◌, append_assoc}
use Prim.Native.Nat.{ℕ, zero, suc, ◌+◌, ◌*◌, ◌/◌, ◌^◌, ◌≤◌, ◌<◌, zero-le}
use native.Mathlib.Decide.{dec_lt}
use native.Mathlib.Nat.{div-lt_iff_lt-mul, lt_of_lt_of_le, not-suc-le-zero, pow-suc}
use native.Mathlib.Omega.{arith}
use borrow.Author.Tests.{lt-leb}
use lib.Dec.{lit<, lit≤}
use lib.ListN.{length, get_or, length-append}
use Rattle.lines.specs.Line.{bounded_draw_line, decimal, digit, index_limit, joined, line, newline, space, spaced}
use Rattle.lines.proofs.LineLaws.{decimal-large, decimal-small}

-- Decimal numbers

-- one digit more than the tenth
pub large-length : {n : ℕ} → 10 ≤ n → length (decimal n) ≡ length (decimal (n / 10)) + 1
large-length {n} h = ap length (decimal-large h) ∙ length-append (decimal (n / 10)) (digit n ∷ [])

-- one place alone holds no number of 10 or more
places : (k : ℕ) {n : ℕ} → 10 ≤ n → n < 10 ^ suc k → 0 < k
places zero s l = absurd (omega arith)
places (suc k) s l = omega arith

-- a number below 10 ^ k has at most k digits
pub decimal-length : (k : ℕ) {n : ℕ} → 0 < k → n < 10 ^ k → length (decimal n) ≤ k
decimal-length zero h l = absurd (not-suc-le-zero h)
decimal-length (suc k) {n} h l = elim (dec_lt n 10) [
  | yes s ↦ rw (decimal-small s) (omega arith)
  | no s ↦
      let large : 10 ≤ n = omega arith in
      let tenth : n / 10 < 10 ^ k = (div-lt_iff_lt-mul (lit< tt)).1 (rw (pow-suc 10 k) at l) in
      omega (arith, large-length large, decimal-length k {n = n / 10} (places k large l) tenth)
]

-- Lines

-- a line is as long as its parts
pub line-length : (head ns : List ℕ) → length (line head ns) ≡ length head + length (joined ns) + 1
unfolding line
line-length head ns =
    length-append (head ++ joined ns) (newline ∷ []) ∙ ap (λ (n : ℕ). n + 1) (length-append head (joined ns))

-- numbers below 10 ^ k take at most k + 1 bytes each
pub spaced-length : (k : ℕ) (ns : List ℕ) → 0 < k → ((i : ℕ) → get_or ns i 0 < 10 ^ k) → length (spaced ns) ≤ (k + 1) * length ns
unfolding spaced
spaced-length k [] h l = zero-le
spaced-length k (n ∷ ns) h l =
    rw (length-append (decimal n) (spaced ns)) (omega (arith, decimal-length k h (l 0), spaced-length k ns h (λ i. l (suc i))))

-- spaced numbers, in two parts
spaced-append : (xs ys : List ℕ) → spaced (xs ++ ys) ≡ spaced xs ++ spaced ys
unfolding spaced
spaced-append [] ys = refl
spaced-append (x ∷ xs) ys =
    ap (λ (l : List ℕ). space ∷ decimal x ++ l) (spaced-append xs ys) ∙ sym (append_assoc (space ∷ decimal x) (spaced xs) (spaced ys))

-- without a space before the first, there is a byte less
joined-spaced : (ns : List ℕ) → length (joined ns) ≤ length (spaced ns)
unfolding joined spaced
joined-spaced [] = zero-le
joined-spaced (n ∷ ns) = omega arith

-- words have at most 20 digits and indices at most 10
pub joined-length : (words indices : List ℕ)
    → ((i : ℕ) → get_or words i 0 < 2 ^ 64) → ((i : ℕ) → get_or indices i 0 < 2 ^ 32)
    → length (joined (words ++ indices)) ≤ 21 * length words + 11 * length indices
joined-length words indices hw hi =
    omega (
      arith,
      joined-spaced (words ++ indices),
      ap length (spaced-append words indices) ∙ length-append (spaced words) (spaced indices),
      spaced-length 20 words (lit< tt) (λ i. lt_of_lt_of_le (hw i) (lit≤ tt)),
      spaced-length 10 indices (lit< tt) (λ i. lt_of_lt_of_le (hi i) (lit≤ tt)),
    )

-- more indices than a line may have give no line
pub draw-none : (squeezes : ℕ) (indices : List ℕ) → index_limit < length indices → bounded_draw_line squeezes indices ≡ []
unfolding bounded_draw_line
draw-none squeezes indices h = simp (lt-leb _ _ h)
