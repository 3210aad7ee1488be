-- One element more: the values that are left to judge, and the words that stand in front.
-- Assumes nothing.
use mathlib.Core.List.{List, [], ◌∷◌, ◌++◌, append_assoc}
use mathlib.Core.Path.{◌≡◌, sym, ap, ◌∙◌}
use Prim.Native.Nat.{ℕ, suc, ◌+◌, ◌-◌, ◌<◌}
use native.Mathlib.Nat.{zero-add}
use native.Mathlib.Numerals.{add-one}
use borrow.Author.Tests.{lt-ltb}
use lib.ListN.{drop, get_or, length, set}
use lib.Seq.{drop-cons, set_at}
use Rattle.numbers.specs.Lists.{tab}
use Rattle.numbers.specs.Modulus.{P}
use Rattle.numbers.proofs.Lists.{length-tab, tab-next, tab-snoc}
use Rattle.rounds.specs.Field.{raw_of}
use Rattle.refusals.specs.Judge.{Judgement, word_refusal}
use Rattle.sheet.specs.Sheet.{value, words_of}

-- behind a value below P, what is left decides
pub good_value : (f : ℕ → ℕ) (n i : ℕ) {judged : Judgement} → judged ≡ word_refusal (tab (n - i) i f) → i < n → f i < P
    → judged ≡ word_refusal (tab (n - (i + 1)) (i + 1) f)
good_value f n i e more good = e ∙ rw (tab-next n i f more) (simp (lt-ltb (f i) P good))

-- and its word is one more in front
pub one_word : (sheet before : List ℕ) (i : ℕ) {now : List ℕ} → now ≡ words_of i sheet ++ drop i before → i < length before
    → set now i (raw_of (value sheet i)) ≡ words_of (i + 1) sheet ++ drop (i + 1) before
unfolding words_of
one_word sheet before i e room =
    let f = λ (k : ℕ). raw_of (value sheet k) in
    ap (λ (l : List ℕ). set l i (f i)) (e ∙ ap (λ (l : List ℕ). tab i 0 f ++ l) (drop-cons before i 0 room))
    ∙ set_at (tab i 0 f) (get_or before i 0) (drop (suc i) before) (f i) i (length-tab i 0 f)
    ∙ ap (λ (x : ℕ). tab i 0 f ++ x ∷ drop (suc i) before) (ap f (sym (zero-add i)))
    ∙ sym (append_assoc (tab i 0 f) (f (0 + i) ∷ []) (drop (suc i) before))
    ∙ ap (λ (l : List ℕ). l ++ drop (suc i) before) (sym (tab-snoc i 0 f))
    ∙ ap (λ (k : ℕ). tab k 0 f ++ drop k before) (sym (add-one i))
