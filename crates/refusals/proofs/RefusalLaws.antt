-- The first of several judgements: nothing is refused where each refuses nothing, and the other way round; an early refusal is
-- the first. The refusals of a length and of a round.
-- Assumes nothing.
use mathlib.Core.List.{List, [], ◌∷◌}
use mathlib.Core.Path.{◌≡◌, refl, ap, sym, ◌∙◌}
use Prim.Native.Nat.{ℕ, zero, suc, ◌≤◌, ◌<◌}
use borrow.Author.Tests.{eq-eqb, eqb-true, le-ltb, lt-ltb, ltb-true, ne_eqb}
use lib.Dec.{eqb, ltb}
use lib.ListN.{get_or, length}
use Rattle.std.specs.Prelude.{Ok, Err}
use Rattle.refusals.specs.declared.refusal.Refusal.{Refusal}
use Rattle.refusals.specs.declared.refusal.Refusal.TheVariants.{NoSuchRound, WrongLength}
use Rattle.refusals.specs.Judge.{Judgement, first, length_refusal, none, round_refusal}
use Rattle.refusals.proofs.JudgeLaws.{passed, refused-not-none}

pub first-one : (j : Judgement) → first (j ∷ []) ≡ j
first-one (Ok done) = refl
first-one (Err e) = refl

pub first-past : {j : Judgement} (js : List Judgement) → j ≡ none → first (j ∷ js) ≡ first js
first-past js e = ap (λ (k : Judgement). first (k ∷ js)) e

-- the one that is judged last, where the one before it is none
pub first-last : {j : Judgement} (r : Judgement) → j ≡ none → first (j ∷ r ∷ []) ≡ r
first-last r e = first-past (r ∷ []) e ∙ first-one r

pub first-none : {j : Judgement} (js : List Judgement) → j ≡ none → first js ≡ none → first (j ∷ js) ≡ none
first-none js e h = first-past js e ∙ h

pub none-first : (j : Judgement) (js : List Judgement) → first (j ∷ js) ≡ none → (j ≡ none) × (first js ≡ none)
none-first (Ok done) js h = (refl, h)
none-first (Err e) js h = absurd (refused-not-none h)

-- where nothing is refused first, nothing is refused
pub none-refuses : (js : List Judgement) → first js ≡ none → (k : ℕ) → get_or js k none ≡ none
none-refuses [] e k = refl
none-refuses (Ok done ∷ js) e zero = refl
none-refuses (Ok done ∷ js) e (suc k) = none-refuses js e k
none-refuses (Err refusal ∷ js) e k = absurd (refused-not-none e)

-- an early refusal, one that comes after a judgement that refuses nothing, and the last one

pub first-stops : {j : Judgement} {refusal : Refusal} (js : List Judgement) → j ≡ Err refusal → first (j ∷ js) ≡ Err refusal
first-stops js e = ap (λ (k : Judgement). first (k ∷ js)) e

pub first-goes-on : {r j : Judgement} (js : List Judgement) → j ≡ none → r ≡ first js → r ≡ first (j ∷ js)
first-goes-on js e h = h ∙ sym (first-past js e)

pub first-ends : {r j l : Judgement} → j ≡ none → r ≡ l → r ≡ first (j ∷ l ∷ [])
first-ends {l = l} e h = first-goes-on (l ∷ []) e (h ∙ sym (first-one l))

-- Lengths

pub length-accepted : {n : ℕ} (ws : List ℕ) → length ws ≡ n → length_refusal n ws ≡ none
length-accepted {n} ws e = rw (eq-eqb (length ws) n e)

pub length-refused : {n : ℕ} (ws : List ℕ) → (length ws ≡ n → ⊥) → length_refusal n ws ≡ Err WrongLength
length-refused {n} ws h = rw (ne_eqb (length ws) n h)

pub accepted-length : (n : ℕ) (ws : List ℕ) → length_refusal n ws ≡ none → length ws ≡ n
accepted-length n ws e = eqb-true (length ws) n (passed (eqb (length ws) n) WrongLength e)

-- Rounds

pub round-accepted : {i : ℕ} → i < 5 → round_refusal i ≡ none
round-accepted h = rw (lt-ltb _ _ h)

pub round-refused : {i : ℕ} → 5 ≤ i → round_refusal i ≡ Err NoSuchRound
round-refused h = rw (le-ltb _ _ h)

pub accepted-round : (i : ℕ) → round_refusal i ≡ none → i < 5
accepted-round i e = ltb-true i 5 (passed (ltb i 5) NoSuchRound e)
