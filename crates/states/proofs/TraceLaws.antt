-- The trace: a round of a state that is below P is granted, and six states one after another are the trace.
-- Assumes nothing.
use Rattle.std.proofs.Common.{◌≡◌, ℕ, zero, suc, ◌+◌, ◌<◌, ◌≤◌, List, [], ◌∷◌, ◌++◌, get_or, length, set, flat_map, Ok, refl, sym, ap, ap₂, ◌∙◌, add-one, arith}
use native.Mathlib.Decide.{ℕ_discrete}
use Rattle.std.proofs.lemmas.Grind.{common_steps, get_or-set_at}
use Rattle.std.proofs.lemmas.List.{ext_get_or, get_or-set_other}
use Rattle.numbers.specs.Lists.{tab}
use Rattle.numbers.proofs.Lists.{tab-get_or}
use Rattle.rounds.specs.Field.{Below}
use Rattle.rounds.specs.Round.{round, rounds}
use Rattle.rounds.proofs.RoundLaws.{rounds-below, rounds-length}
use Rattle.refusals.specs.Judge.{Judgement, granted, word_refusal}
use Rattle.refusals.proofs.RefusalLaws.{first-last, round-accepted}
use Rattle.refusals.proofs.JudgeLaws.{below_accepted}
use Rattle.tip5.specs.Permutation.{one_round}
use Rattle.states.specs.Trace.{six_states}

-- of six states the first are those after no round, one round and so on up to i rounds
pub record Entered (s : List ℕ) (i : ℕ) (states : List (List ℕ)) : Type 0 where
  pub six : length states ≡ 6
  pub front : (j : ℕ) → j ≤ i → get_or states j [] ≡ rounds j s

pub entered-none : (s : List ℕ) → Entered s 0 (s ∷ s ∷ s ∷ s ∷ s ∷ s ∷ [])
unfolding rounds
entered-none s = record { six = refl; front = none }
  where
    none : (j : ℕ) → j ≤ 0 → get_or (s ∷ s ∷ s ∷ s ∷ s ∷ s ∷ []) j [] ≡ rounds j s
    none zero h = refl
    none (suc j) h = absurd (omega arith)

-- the round that comes next is granted
pub next-granted : {s : List ℕ} {i : ℕ} {states : List (List ℕ)} → Entered s i states → Below s → i < 5 → one_round i (get_or states i []) ≡ Ok (rounds (i + 1) s)
unfolding rounds
next-granted {s} {i} {states} e low h =
    ap (one_round i) (e.front i (omega arith))
    ∙ ap (λ (j : Judgement). granted j (round i (rounds i s)))
    (first-last (word_refusal (rounds i s)) (round-accepted h) ∙ below_accepted (rounds i s) (rounds-below i s low))
    ∙ ap (λ (n : ℕ). Ok (rounds n s)) (sym (add-one i))

pub entered-more : {s : List ℕ} {i : ℕ} {states : List (List ℕ)} → Entered s i states → i < 5 → Entered s (i + 1) (set states (i + 1) (rounds (i + 1) s))
entered-more {s} {i} {states} e h = record { six = grind (arith, common_steps, e.six); front = λ j l. front j l (ℕ_discrete j (i + 1)) }
  where
    front : (j : ℕ) → j ≤ i + 1 → Dec (j ≡ i + 1) → get_or (set states (i + 1) (rounds (i + 1) s)) j [] ≡ rounds j s
    front j l (yes at) = get_or-set_at states (i + 1) j (rounds (i + 1) s) [] at (omega (arith, h, e.six)) ∙ ap (λ (n : ℕ). rounds n s) (sym at)
    front j l (no other) = get_or-set_other states (i + 1) j (rounds (i + 1) s) [] other ∙ e.front j (omega (arith, l, other))

-- six states one after another
pub entered_all : {s : List ℕ} {states : List (List ℕ)} → length s ≡ 16 → Entered s 5 states → flat_map (λ x. x) states ≡ six_states s
unfolding six_states
entered_all {s} {states} long e = ap (flat_map (λ x. x)) are ∙ ap₂ ◌++◌ (part 0) (ap₂ ◌++◌ (part 1) (ap₂ ◌++◌ (part 2) (ap₂ ◌++◌ (part 3) (ap₂ ◌++◌ (part 4) (ap₂ ◌++◌ (part 5) refl)))))
  where
    part : (j : ℕ) → rounds j s ≡ tab 16 0 (λ k. get_or (rounds j s) k 0)
    part j = sym (tab-get_or (rounds j s) (rounds-length j s long))

    are : states ≡ rounds 0 s ∷ rounds 1 s ∷ rounds 2 s ∷ rounds 3 s ∷ rounds 4 s ∷ rounds 5 s ∷ []
    are = ext_get_or [] states _ e.six λ j h. each j (omega (arith, h, e.six))
      where
        each : (j : ℕ) → j < 6 → get_or states j [] ≡ get_or (rounds 0 s ∷ rounds 1 s ∷ rounds 2 s ∷ rounds 3 s ∷ rounds 4 s ∷ rounds 5 s ∷ []) j []
        each zero h = e.front 0 (omega arith)
        each (suc zero) h = e.front 1 (omega arith)
        each (suc (suc zero)) h = e.front 2 (omega arith)
        each (suc (suc (suc zero))) h = e.front 3 (omega arith)
        each (suc (suc (suc (suc zero)))) h = e.front 4 (omega arith)
        each (suc (suc (suc (suc (suc zero))))) h = e.front 5 (omega arith)
        each (suc (suc (suc (suc (suc (suc j)))))) h = absurd (omega (arith, h))
