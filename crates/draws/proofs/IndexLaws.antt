-- What a word draws, as code finds it: nothing for the value that is skipped, an index for every other.
-- Assumes nothing.
use mathlib.Core.List.{List, [], ◌∷◌, ◌++◌, append_assoc, append-nil}
use mathlib.Core.Path.{◌≡◌, refl, ap, sym, ◌∙◌}
use Prim.Native.Nat.{ℕ, ◌+◌, ◌-◌, ◌<◌}
use native.Mathlib.Numerals.{add-one}
use native.Mathlib.Omega.{arith}
use borrow.Author.Tests.{eq-eqb, ne_eqb}
use borrow.Rule.Slice.PartMut.{mid_of, put_mid}
use lib.ListN.{drop, get_or, length, set, take}
use lib.Seq.{take-suc}
use Rattle.rounds.specs.Field.{value_of}
use Rattle.draws.specs.Draw.{drawn_from, from_words, index_of, skipped}
use Rattle.draws.specs.Filled.{filled}
use Rattle.draws.proofs.FilledLaws.{filled-full, filled-more, filled-none, filled-one, lent-rest, put-rest}

pub drawn-skipped : (bound : ℕ) {v : ℕ} → v ≡ skipped → drawn_from bound v ≡ []
unfolding drawn_from
drawn-skipped bound {v} e = simp (eq-eqb v skipped e)

pub drawn-index : (bound : ℕ) {v : ℕ} → (v ≡ skipped → ⊥) → drawn_from bound v ≡ index_of bound v ∷ []
unfolding drawn_from
drawn-index bound {v} h = simp (ne_eqb v skipped h)

-- and as it puts that at the front

pub put_nothing : (bound v : ℕ) (before : List ℕ) → v ≡ skipped → (0, before) ≡ filled (drawn_from bound v) before
put_nothing bound v before e = sym (ap (λ (l : List ℕ). filled l before) (drawn-skipped bound e) ∙ filled-none before)

pub put_no_room : (bound v : ℕ) (before : List ℕ) → length before ≡ 0 → (0, before) ≡ filled (drawn_from bound v) before
put_no_room bound v [] e = sym (filled-full (drawn_from bound v))
put_no_room bound v (b ∷ bs) e = absurd (omega arith)

pub put_one : (bound v x : ℕ) (before : List ℕ) → (v ≡ skipped → ⊥) → (length before ≡ 0 → ⊥) → x ≡ index_of bound v
    → (1, set before 0 x) ≡ filled (drawn_from bound v) before
put_one bound v x [] h room e = absurd (room refl)
put_one bound v x (b ∷ bs) h room e =
    sym (ap (λ (l : List ℕ). filled l (b ∷ bs)) (drawn-index bound h ∙ ap (λ (i : ℕ). i ∷ []) (sym e)) ∙ filled-one x (b ∷ bs) (omega arith))

-- words in two parts
pub from_words-append : (bound : ℕ) (ws more : List ℕ) → from_words bound (ws ++ more) ≡ from_words bound ws ++ from_words bound more
unfolding from_words
from_words-append bound [] more = refl
from_words-append bound (w ∷ ws) more =
    ap (λ (l : List ℕ). drawn_from bound (value_of w) ++ l) (from_words-append bound ws more) ∙ sym (append_assoc (drawn_from bound (value_of w)) (from_words bound ws) (from_words bound more))

-- the next word
pub from_words-more : (bound : ℕ) (ws : List ℕ) {i : ℕ} → i < length ws → from_words bound (take (i + 1) ws) ≡ from_words bound (take i ws) ++ drawn_from bound (value_of (get_or ws i 0))
unfolding from_words
from_words-more bound ws {i} h =
    ap (from_words bound) (ap (λ (n : ℕ). take n ws) (add-one i) ∙ take-suc ws i 0 h)
    ∙ from_words-append bound (take i ws) (get_or ws i 0 ∷ [])
    ∙ ap (λ (l : List ℕ). from_words bound (take i ws) ++ l) (append-nil (drawn_from bound (value_of (get_or ws i 0))))

-- and as it puts what they draw at the front

pub put_begins : (bound : ℕ) (before : List ℕ) → (0, before) ≡ filled (from_words bound []) before
unfolding from_words
put_begins bound before = sym (filled-none before)

pub put_goes_on : (bound : ℕ) (ws before : List ℕ) {i n m : ℕ} {now after : List ℕ} → i < length ws
    → (n, now) ≡ filled (from_words bound (take i ws)) before
    → (m, after) ≡ filled (drawn_from bound (value_of (get_or ws i 0))) (mid_of n (length now - n) now)
    → (n + m, put_mid n (length now - n) now after) ≡ filled (from_words bound (take (i + 1) ws)) before
put_goes_on bound ws before {i} {n} {m} {now} {after} h one two =
    let xs = from_words bound (take i ws) in
    let ys = drawn_from bound (value_of (get_or ws i 0)) in
    ap (λ (l : List ℕ). (n + m, l)) (put-rest n now after)
    ∙ ap (λ (p : ℕ × List ℕ). (n + p.0, take n now ++ p.1)) (two ∙ ap (filled ys) (lent-rest n now))
    ∙ ap (λ (p : ℕ × List ℕ). let q = filled ys (drop p.0 p.1) in (p.0 + q.0, take p.0 p.1 ++ q.1)) one
    ∙ sym (ap (λ (l : List ℕ). filled l before) (from_words-more bound ws h) ∙ filled-more xs ys before)
