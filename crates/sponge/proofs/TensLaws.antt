-- An input that is absorbed ten by ten: what is left of it, what is done, and what its last words are.
-- Assumes nothing.
use mathlib.Core.List.{List, ◌++◌}
use mathlib.Core.Path.{◌≡◌, refl, ap, ap₂, subst, subst⁻¹, sym, ◌∙◌}
use Prim.Native.Nat.{ℕ, ◌-◌, ◌%◌, ◌<◌}
use native.Mathlib.Omega.{arith}
use lib.ListN.{drop, length, take, length-append}
use lib.Seq.{drop_at, take_at}
use Rattle.std.proofs.Math.Seq.{drop-append-add}
use Rattle.rounds.specs.Field.{Below}
use Rattle.refusals.specs.Judge.{Judgement, granted, none, word_refusal}
use Rattle.refusals.proofs.JudgeLaws.{below_accepted}
use Rattle.sponge.specs.declared.Tip5.{Tip5}
use Rattle.sponge.specs.History.{padded_steps, run}
use Rattle.sponge.specs.Padding.{last_ten}
use Rattle.sponge.specs.InPlace.{leaving}
use Rattle.sponge.specs.Sponge.{absorbed, overwrite, permute}
use Rattle.sponge.proofs.BelowLaws.{drop-below, take-below}
use Rattle.sponge.proofs.HistoryLaws.{run-padded-last, run-padded-more}
use Rattle.sponge.proofs.PaddingLaws.{last_ten-below}
use Rattle.sponge.proofs.SpongeLaws.{absorbed_below, overwrite_below}

-- the words after the last whole ten
abbrev pub over : List ℕ → List ℕ
over ws = drop (length ws - length ws % 10) ws

-- of an input and a sponge, the words that are still to be absorbed and the sponge that absorbed the others
pub record Left (input : List ℕ) (start : Tip5) (rest : List ℕ) (sponge : Tip5) : Type 0 where
  pub below : Below rest
  pub judged : Below sponge.state
  pub last : over rest ≡ over input
  pub same : run (padded_steps input) start ≡ run (padded_steps rest) sponge

-- ten words that were judged overwrite words 0 to 9 of a judged sponge, and the permutation that follows is granted
pub absorbs : (ten : List ℕ) (s : Tip5) {t u : Tip5} {j : Judgement} → (j, t) ≡ leaving (granted (word_refusal u.state) (permute u)) u → u ≡ overwrite ten s → Below s.state → Below ten
    → (j ≡ none) × (t ≡ absorbed ten s)
unfolding absorbed
absorbs ten s e same hs ht =
    let p =
    e
    ∙ ap (λ (v : Tip5). leaving (granted (word_refusal v.state) (permute v)) v) same
    ∙ ap (λ (k : Judgement). leaving (granted k (permute (overwrite ten s))) (overwrite ten s)) (below_accepted (overwrite ten s).state (overwrite_below ten s ht hs)) in
    (ap (λ (x : Judgement × Tip5). x.0) p, ap (λ (x : Judgement × Tip5). x.1) p)

pub begins : (input : List ℕ) (s : Tip5) → Below s.state → Below input → Left input s input s
begins input s hs hi = record { below = hi; judged = hs; last = refl; same = refl }

take-ten : (ten ws : List ℕ) → length ten ≡ 10 → take 10 (ten ++ ws) ≡ ten
take-ten ten ws e = take_at ten ws 10 e

drop-ten : (ten ws : List ℕ) → length ten ≡ 10 → drop 10 (ten ++ ws) ≡ ws
drop-ten ten ws e = drop_at ten ws 10 e

over-ten : (ten ws : List ℕ) → length ten ≡ 10 → over (ten ++ ws) ≡ over ws
over-ten ten ws e = ap (λ (k : ℕ). drop k (ten ++ ws)) (omega (arith, length-append ten ws)) ∙ drop-append-add ten ws (length ws - length ws % 10)

over-short : (ws : List ℕ) → length ws < 10 → over ws ≡ ws
over-short ws h = ap (λ (k : ℕ). drop k ws) e
  where
    e : length ws - length ws % 10 ≡ 0
    e = omega arith

pub goes_on : (input : List ℕ) (start : Tip5) (ten ws rest : List ℕ) (s t : Tip5) → Left input start rest s → rest ≡ ten ++ ws → length ten ≡ 10
    → t ≡ absorbed ten s → Left input start ws t
goes_on input start ten ws rest s t l e long absorbs =
    record {
      below = subst Below (ap (drop 10) e ∙ drop-ten ten ws long) (drop-below 10 rest l.below);
      judged = subst⁻¹ (λ (u : Tip5). Below u.state) absorbs (absorbed_below ten s);
      last = sym (ap over e ∙ over-ten ten ws long) ∙ l.last;
      same = l.same
          ∙ ap (λ (r : List ℕ). run (padded_steps r) s) e
          ∙ run-padded-more (ten ++ ws) s (omega (arith, length-append ten ws))
          ∙ ap₂ (λ (r : List ℕ) (u : Tip5). run (padded_steps r) u) (drop-ten ten ws long) (ap (λ (x : List ℕ). absorbed x s) (take-ten ten ws long) ∙ sym absorbs);
    }

pub ten_below : (input : List ℕ) (start : Tip5) (ten ws rest : List ℕ) (s : Tip5) → Left input start rest s → rest ≡ ten ++ ws → length ten ≡ 10 → Below ten
ten_below input start ten ws rest s l e long = subst Below (ap (take 10) e ∙ take-ten ten ws long) (take-below 10 rest l.below)

pub last_below : {input : List ℕ} {start : Tip5} {rest : List ℕ} {s : Tip5} → Left input start rest s → Below (last_ten (over input))
last_below {rest = rest} l = subst (λ (ws : List ℕ). Below (last_ten ws)) l.last (last_ten-below (over rest) (drop-below (length rest - length rest % 10) rest l.below))

pub ends : (input : List ℕ) (start : Tip5) (rest : List ℕ) (s t : Tip5) → Left input start rest s → length rest < 10
    → t ≡ absorbed (last_ten (over input)) s → t ≡ run (padded_steps input) start
ends input start rest s t l short absorbs =
    absorbs
    ∙ ap (λ (ws : List ℕ). absorbed (last_ten ws) s) (sym l.last ∙ over-short rest short)
    ∙ sym (l.same ∙ run-padded-last rest s short)
