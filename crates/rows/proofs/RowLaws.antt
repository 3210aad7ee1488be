-- A row that a sponge absorbs ten words at a time: no word absorbed yet, ten words more, and the rest.
-- Assumes nothing.
use mathlib.Core.List.{List, [], ◌∷◌}
use mathlib.Core.Path.{◌≡◌, refl, ap, sym, ◌∙◌}
use Prim.Native.Nat.{ℕ, ◌+◌, ◌*◌, ◌≤◌, ◌<◌}
use native.Mathlib.Omega.{arith}
use lib.ListN.{drop, length, take, length-drop}
use lib.Seq.{drop-drop, length-take-le}
use Rattle.std.proofs.lemmas.List.{take_all}
use Rattle.std.specs.Prelude.{Result, Ok}
use Rattle.refusals.specs.declared.refusal.Refusal.{Refusal}
use Rattle.rounds.specs.Field.{Below}
use Rattle.refusals.specs.Judge.{Judgement, granted, none, word_refusal}
use Rattle.refusals.proofs.JudgeLaws.{below_accepted}
use Rattle.refusals.proofs.RefusalLaws.{first-none}
use Rattle.sponge.specs.declared.Domain.TheVariants.{VariableLength}
use Rattle.sponge.specs.declared.Tip5.{Tip5}
use Rattle.sponge.specs.Answers.{absorb, pad_and_absorb_all}
use Rattle.sponge.specs.InPlace.{leaving}
use Rattle.sponge.specs.History.{padded_steps, run}
use Rattle.sponge.specs.Sponge.{absorbed, start}
use Rattle.sponge.proofs.AcceptedLaws.{absorb-accepted}
use Rattle.sponge.proofs.BelowLaws.{drop-below, take-below}
use Rattle.sponge.proofs.HistoryLaws.{run-padded-more}
use Rattle.sponge.proofs.SpongeLaws.{absorbed_below, start_below}
use Rattle.rows.specs.declared.table.Table.{Table}
use Rattle.rows.specs.Table.{row_in}
use Rattle.rows.proofs.TableLaws.{row_below, row_length}

-- the sponge that absorbed the words of a row before word `at`
pub record Absorbed (t : Table) (r at : ℕ) (s : Tip5) : Type 0 where
  pub judged : Below s.state
  pub same : run (padded_steps (row_in t r)) (start VariableLength) ≡ run (padded_steps (drop at (row_in t r))) s

pub none-yet : (t : Table) (r : ℕ) {s : Tip5} → s ≡ start VariableLength → Absorbed t r 0 s
none-yet t r e = rw e (record { judged = start_below VariableLength; same = refl })

-- calls that a good sponge grants to good words

absorb-granted : (s : Tip5) (ten : List ℕ) → length ten ≡ 10 → Below s.state → Below ten → absorb s ten ≡ Ok (absorbed ten s)
absorb-granted s ten long hs ht = ap (λ (j : Judgement). granted j (absorbed ten s)) (absorb-accepted s ten long hs ht)

pad-granted : (s : Tip5) (input : List ℕ) → Below s.state → Below input → pad_and_absorb_all s input ≡ Ok (run (padded_steps input) s)
pad-granted s input hs hi =
    ap (λ (j : Judgement). granted j (run (padded_steps input) s))
    (first-none (word_refusal input ∷ []) (below_accepted s.state hs) (first-none [] (below_accepted input hi) refl))

module _ (t : Table) (r at : ℕ) (s : Tip5) (a : Absorbed t r at s) where
  -- words of what is left are below P
  left-below : (n : ℕ) → Below (take n (drop at (row_in t r)))
  left-below n = take-below n _ (drop-below at _ (row_below t r))

  -- ten words and more are left
  ten-left : r < t.rows → at + 10 ≤ t.columns * t.width → 10 ≤ length (drop at (row_in t r))
  ten-left h l = omega (arith, length-drop at (row_in t r), row_length t r h)

  pub ten_granted : r < t.rows → at + 10 ≤ t.columns * t.width
      → absorb s (take 10 (drop at (row_in t r))) ≡ Ok (absorbed (take 10 (drop at (row_in t r))) s)
  ten_granted h l = absorb-granted s _ (length-take-le 10 _ (ten-left h l)) a.judged (left-below 10)

  pub ten_more : r < t.rows → at + 10 ≤ t.columns * t.width → Absorbed t r (at + 10) (absorbed (take 10 (drop at (row_in t r))) s)
  ten_more h l =
      record {
        judged = absorbed_below _ s;
        same = a.same
            ∙ run-padded-more (drop at (row_in t r)) s (ten-left h l)
            ∙ ap (λ (ws : List ℕ). run (padded_steps ws) (absorbed (take 10 (drop at (row_in t r))) s)) (drop-drop 10 at (row_in t r));
      }

  -- the rest, n words from place k on, which is here
  pub rest-absorbed : (n k : ℕ) {rest : List ℕ} → r < t.rows → k ≡ at → at + n ≡ t.columns * t.width → rest ≡ take n (drop k (row_in t r))
      → leaving (pad_and_absorb_all s rest) s ≡ (none, run (padded_steps (row_in t r)) (start VariableLength))
  rest-absorbed n k h same all e =
      let left : take n (drop at (row_in t r)) ≡ drop at (row_in t r) = take_all n _ (omega (arith, length-drop at (row_in t r), row_length t r h)) in
      rw (e, same, left) (ap (λ (answer : Result Tip5 Refusal). leaving answer s) (pad-granted s _ a.judged (drop-below at _ (row_below t r))) ∙ ap (λ (u : Tip5). (none, u)) (sym a.same))
