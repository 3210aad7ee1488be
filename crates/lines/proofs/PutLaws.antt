-- Bytes that are written one after another from the front of a list on.
-- Assumes nothing.
use mathlib.Core.Path.{◌≡◌, sym, ap, ap₂, subst, ◌∙◌}
use mathlib.Core.List.{List, ◌++◌, append_assoc, append-nil}
use Prim.Native.Nat.{ℕ, ◌+◌, ◌-◌, ◌≤◌}
use native.Mathlib.Omega.{arith}
use borrow.Rule.Slice.PartMut.{mid_of, put_mid}
use lib.ListN.{length, take, drop, drop_of_length-le, length-append, length-drop}
use lib.Seq.{drop-append_seam, drop-drop, take-append_seam}
use Rattle.std.proofs.lemmas.List.{take_all}
use Rattle.lines.specs.Put.{Front}

-- of bytes that are equal to them
pub front-same : {before xs ys after : List ℕ} {count : ℕ} → xs ≡ ys → Front before xs after count → Front before ys after count
front-same {before} {after = after} {count = count} e f = subst (λ (bytes : List ℕ). Front before bytes after count) e f

-- the bytes, and then those that a call has written at the front of what was left
pub front-more : {k l m : List ℕ} {at count : ℕ} (n : ℕ) {xs ys : List ℕ} → length l ≡ n
    → Front k xs l at → Front (mid_of at (n - at) l) ys m count → Front k (xs ++ ys) (put_mid at (n - at) l m) (at + count)
front-more {k} {l} {m} {at} {count} n {xs} {ys} long p q = record {
  stored =
      ap₂ (λ (front back : List ℕ). front ++ (m ++ back)) front (drop_of_length-le (drop at l) room)
      ∙ ap (λ (t : List ℕ). xs ++ t) (append-nil m ∙ q.stored ∙ ap (λ (t : List ℕ). ys ++ drop (length ys) t) (take_all (n - at) (drop at l) room ∙ left))
      ∙ sym (append_assoc xs ys (drop (length ys) (drop (length xs) k)))
      ∙ ap (λ (t : List ℕ). (xs ++ ys) ++ t) (drop-drop (length ys) (length xs) k ∙ ap (λ (i : ℕ). drop i k) (sym (length-append xs ys)));
  counted = ap₂ (λ (i j : ℕ). i + j) p.counted q.counted ∙ sym (length-append xs ys);
}
  where
    room : length (drop at l) ≤ n - at
    room = omega (arith, length-drop at l, long)

    front : take at l ≡ xs
    front = rw (p.counted, p.stored) (take-append_seam xs (drop (length xs) k))

    left : drop at l ≡ drop (length xs) k
    left = rw (p.counted, p.stored) (drop-append_seam xs (drop (length xs) k))
