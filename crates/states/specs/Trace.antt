-- What `trace` answers: six states one after another, or refusal 1 where a word is P or more.
use Rattle.std.specs.Prelude.{List, ℕ, ◌/◌, ◌%◌, get_or, Result}
use Rattle.numbers.specs.Lists.{tab}
use Rattle.rounds.specs.Round.{rounds}
use Rattle.refusals.specs.declared.refusal.Refusal.{Refusal}
use Rattle.refusals.specs.Judge.{granted, word_refusal}

-- the entry state and that after each round, one after another
unfoldable pub six_states : List ℕ → List ℕ
six_states s = tab 96 0 (λ k. get_or (rounds (k / 16) s) (k % 16) 0)

abbrev pub trace : List ℕ → Result (List ℕ) Refusal
trace s = granted (word_refusal s) (six_states s)
