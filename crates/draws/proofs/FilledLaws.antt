-- A slice that is filled from the front: with nothing, with one index, where there is no room, and with more after that.
-- Assumes nothing.
use mathlib.Core.List.{List, [], ◌∷◌, ◌++◌, append_assoc, append-nil}
use mathlib.Core.Path.{◌≡◌, refl, ap, ap₂, sym, ◌∙◌}
use Prim.Native.Nat.{ℕ, zero, suc, ◌+◌, ◌-◌, ◌≤◌, ◌<◌}
use native.Mathlib.Nat.{sub-zero, suc-sub-suc}
use native.Mathlib.Omega.{arith}
use borrow.Rule.Slice.PartMut.{mid_of, put_mid}
use lib.ListN.{drop, drop_of_length-le, length, take, length-append, length-drop, length-take}
use lib.Seq.{drop-drop, take_all, take-append_seam, drop-append_seam, take-nil}
use Rattle.draws.specs.Answers.{in_front}
use Rattle.draws.specs.Filled.{filled, fitting}

pub filled-none : (before : List ℕ) → filled [] before ≡ (0, before)
filled-none before = ap (λ (l : List ℕ). (length l, in_front l before)) (take-nil (length before))

pub filled-full : (xs : List ℕ) → filled xs [] ≡ (0, [])
filled-full xs = refl

pub filled-one : (x : ℕ) (before : List ℕ) → 0 < length before → filled (x ∷ []) before ≡ (1, x ∷ drop 1 before)
filled-one x [] h = absurd (omega arith)
filled-one x (b ∷ bs) h = ap (λ (l : List ℕ). (length (x ∷ l), in_front (x ∷ l) (b ∷ bs))) (take-nil (length bs))

-- no more than there is room for
pub filled_room : (xs before : List ℕ) {n : ℕ} {now : List ℕ} → (n, now) ≡ filled xs before → n ≤ length before
filled_room xs before e = omega (arith, ap (λ (p : ℕ × List ℕ). p.0) e, length-take (length before) xs)

-- more after that

fitting-more : (n : ℕ) (xs ys : List ℕ) → take n (xs ++ ys) ≡ take n xs ++ take (n - length (take n xs)) ys
fitting-more zero xs ys = refl
fitting-more (suc n) [] ys = ap (λ (k : ℕ). take k ys) (sym (sub-zero (suc n)))
fitting-more (suc n) (x ∷ xs) ys =
    ap (λ (l : List ℕ). x ∷ l) (fitting-more n xs ys ∙ ap (λ (k : ℕ). take n xs ++ take k ys) (sym (suc-sub-suc n (length (take n xs)))))

-- indices put in front, and then others in front of the rest
pub front-more : (xs ys before : List ℕ)
    → (let one = in_front xs before in in_front (xs ++ ys) before ≡ take (length xs) one ++ in_front ys (drop (length xs) one))
front-more xs ys before =
    let n = length xs in
    let m = length ys in
    let one = in_front xs before in
    let free : drop n one ≡ drop n before = drop-append_seam xs (drop n before) in
    append_assoc xs ys (drop (length (xs ++ ys)) before)
    ∙ ap₂ (λ (l : List ℕ) (r : List ℕ). l ++ (ys ++ r)) (sym (take-append_seam xs (drop n before)))
    (ap (λ (k : ℕ). drop k before) (length-append xs ys) ∙ sym (drop-drop m n before) ∙ ap (drop m) (sym free))

front-rest : (xs before : List ℕ) → length (drop (length xs) (in_front xs before)) ≡ length before - length xs
front-rest xs before = ap length (drop-append_seam xs (drop (length xs) before)) ∙ length-drop (length xs) before

pub filled-more : (xs ys before : List ℕ)
    → (let one = filled xs before in let two = filled ys (drop one.0 one.1) in filled (xs ++ ys) before ≡ (one.0 + two.0, take one.0 one.1 ++ two.1))
filled-more xs ys before =
    let first = fitting xs before in
    let one = in_front first before in
    let n = length first in
    ap (λ (l : List ℕ). (length l, in_front l before)) (fitting-more (length before) xs ys ∙ ap (λ (k : ℕ). first ++ take k ys) (sym (front-rest first before)))
    ∙ (let second = fitting ys (drop n one) in ap₂ (λ (k : ℕ) (l : List ℕ). (k, l)) (length-append first second) (front-more first second before))

-- the rest of a slice, as code lends it and has it back

pub lent-rest : (n : ℕ) (now : List ℕ) → mid_of n (length now - n) now ≡ drop n now
lent-rest n now = take_all (length now - n) (drop n now) (omega (arith, length-drop n now))

pub put-rest : (n : ℕ) (now after : List ℕ) → put_mid n (length now - n) now after ≡ take n now ++ after
put-rest n now after =
    let e : drop (length now - n) (drop n now) ≡ [] = drop_of_length-le (drop n now) (omega (arith, length-drop n now)) in
    ap (λ (l : List ℕ). take n now ++ (after ++ l)) e ∙ ap (λ (l : List ℕ). take n now ++ l) (append-nil after)
