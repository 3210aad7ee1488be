-- What the calls of the permutation answer: refusal 8 for a round over 4, then 1 for a word of P or more.
use Rattle.std.specs.Prelude.{List, [], ◌∷◌, ℕ, Result}
use Rattle.rounds.specs.Inverse.{inv_permuted, inv_round}
use Rattle.rounds.specs.Round.{permuted, round}
use Rattle.refusals.specs.declared.refusal.Refusal.{Refusal}
use Rattle.refusals.specs.Judge.{first, granted, round_refusal, word_refusal}

abbrev pub permutation : List ℕ → Result (List ℕ) Refusal
permutation s = granted (word_refusal s) (permuted s)

abbrev pub one_round : (i : ℕ) → List ℕ → Result (List ℕ) Refusal
one_round i s = granted (first (round_refusal i ∷ word_refusal s ∷ [])) (round i s)

-- the same on the way back

abbrev pub inv_permutation : List ℕ → Result (List ℕ) Refusal
inv_permutation s = granted (word_refusal s) (inv_permuted s)

abbrev pub inv_one_round : (i : ℕ) → List ℕ → Result (List ℕ) Refusal
inv_one_round i s = granted (first (round_refusal i ∷ word_refusal s ∷ [])) (inv_round i s)
