-- A draw from a seed: it is refused by nothing but 6, and its line goes by whether all indices were found.
-- Assumes nothing.
use mathlib.Core.Bool.{Bool, true, false, cond}
use mathlib.Core.List.{List, ◌++◌, append-nil}
use mathlib.Core.Path.{◌≡◌, refl, ap, ap₂, ◌∙◌}
use Prim.Native.Nat.{ℕ, ◌*◌, ◌%◌, ◌^◌, ◌≤◌, ◌<◌}
use native.Mathlib.Omega.{arith}
use borrow.Author.Tests.{ltb-false}
use lib.Dec.{ltb}
use lib.ListN.{drop, drop_of_length-le, length, length-append, length-drop}
use Rattle.std.specs.Prelude.{Result, Ok, Err}
use Rattle.numbers.proofs.Tests.{shifted-one}
use Rattle.refusals.specs.Judge.{Judgement, none, unless}
use Rattle.refusals.specs.Number.{number_of}
use Rattle.refusals.proofs.JudgeLaws.{below_accepted}
use Rattle.refusals.proofs.RefusalLaws.{first-last}
use Rattle.sponge.specs.declared.Domain.TheVariants.{VariableLength}
use Rattle.sponge.specs.declared.Tip5.{Tip5}
use Rattle.sponge.specs.History.{padded_steps}
use Rattle.sponge.specs.Sponge.{start}
use Rattle.sponge.proofs.HistoryLaws.{run-below}
use Rattle.sponge.proofs.SpongeLaws.{start_below}
use Rattle.draws.specs.declared.error.DrawError.{DrawError}
use Rattle.draws.specs.declared.error.DrawError.TheVariants.{AllowanceSpent}
use Rattle.draws.specs.Answers.{draw_answer, draw_refusal, in_front, sample_indices, sampled_slice}
use Rattle.draws.specs.Bound.{bound_refusal}
use Rattle.draws.specs.Draw.{Draw, draw, nothing}
use Rattle.draws.specs.Error.{refusal_of}
use Rattle.draws.proofs.BoundLaws.{bound-accepted}
use Rattle.draws.proofs.DrawLaws.{draw-found}
use Rattle.lines.specs.Line.{bounded_draw_line, draw_line, refused_line}
use Rattle.lines.specs.Put.{Front}
use Rattle.lines.proofs.LineLaws.{draw-bounded}
use Rattle.lines.proofs.PutLaws.{front-same}
use Rattle.sheet.specs.declared.header.Header.{Header}
use Rattle.answers.specs.Answer.{drawn_line, seeded_by}
use Rattle.answers.specs.Job.{draw_by}

-- a draw from a seed with a bound that a sheet can name is refused by nothing but 6
pub seed-accepted : (words : List ℕ) {log2 : ℕ} → log2 < 32 → draw_refusal (seeded_by words) (2 ^ log2) ≡ none
unfolding seeded_by
seed-accepted words {log2} h =
    let state = (seeded_by words).state in
    first-last (bound_refusal (2 ^ log2)) (below_accepted state (run-below (padded_steps words) (start VariableLength) (start_below VariableLength)))
    ∙ bound-accepted (2 ^ log2) (record { k = log2; below = h; same = refl })

-- what such a call answers, and what it leaves in the slice

pub answer-of : (words : List ℕ) {log2 : ℕ} (allowance wanted : ℕ) {r : Result ℕ DrawError} {s next : Tip5} → log2 < 32 → s ≡ seeded_by words
    → (r, next) ≡ sample_indices s (1 * 2 ^ log2 % 2 ^ 32) allowance wanted
    → r ≡ draw_answer none wanted (draw (2 ^ log2) allowance wanted (seeded_by words))
answer-of words {log2} allowance wanted h same e =
    let d = draw (2 ^ log2) allowance wanted (seeded_by words) in
    ap (λ (p : Result ℕ DrawError × Tip5). p.0) e
    ∙ ap₂ (λ (t : Tip5) (b : ℕ). (sample_indices t b allowance wanted).0) same (shifted-one log2 h)
    ∙ ap (λ (j : Judgement). draw_answer j wanted (unless j d (nothing (seeded_by words)))) (seed-accepted words h)

pub slice-of : (words : List ℕ) {log2 : ℕ} (allowance : ℕ) (before : List ℕ) {after : List ℕ} {s : Tip5} → log2 < 32 → s ≡ seeded_by words
    → after ≡ sampled_slice s (1 * 2 ^ log2 % 2 ^ 32) allowance before
    → after ≡ in_front (draw (2 ^ log2) allowance (length before) (seeded_by words)).indices before
slice-of words {log2} allowance before h same e =
    let d = draw (2 ^ log2) allowance (length before) (seeded_by words) in
    e
    ∙ ap₂ (λ (t : Tip5) (b : ℕ). sampled_slice t b allowance before) same (shifted-one log2 h)
    ∙ ap (λ (j : Judgement). in_front (unless j d (nothing (seeded_by words))).indices before) (seed-accepted words h)

-- the line of that, from a slice that is as long as the header wants

-- a slice that its indices fill holds nothing else
full : (d : Draw) (before : List ℕ) → length before ≤ length d.indices → in_front d.indices before ≡ d.indices
full d before h = ap (λ (l : List ℕ). d.indices ++ l) (drop_of_length-le before h) ∙ append-nil d.indices

line-found : (d : Draw) (before : List ℕ) {squeezes : ℕ} → length before ≤ 4095 → length d.indices ≤ length before → Ok squeezes ≡ draw_answer none (length before) d
    → bounded_draw_line squeezes (in_front d.indices before) ≡ drawn_line (length before) d
unfolding drawn_line
line-found d before {squeezes} room few answer =
    let long : length (in_front d.indices before) ≤ 4095 =
    omega (arith, length-append d.indices (drop (length d.indices) before), length-drop (length d.indices) before) in
    draw-bounded squeezes (in_front d.indices before) long ∙ go (ltb (length d.indices) (length before)) refl answer
  where
    go : (b : Bool) → ltb (length d.indices) (length before) ≡ b → ◌≡◌ {A = Result ℕ DrawError} (Ok squeezes) (cond b (Err (AllowanceSpent (length d.indices) d.squeezes)) (Ok d.squeezes))
        → draw_line squeezes (in_front d.indices before) ≡ cond b (refused_line 6) (draw_line d.squeezes d.indices)
    go true t e = absurd (cc)
    go false t e =
        let same : squeezes ≡ d.squeezes = cc in
        ap₂ draw_line same (full d before (ltb-false (length d.indices) (length before) t))

line-missing : (d : Draw) (wanted : ℕ) {error : DrawError} → Err error ≡ draw_answer none wanted d → refused_line (number_of (refusal_of error)) ≡ drawn_line wanted d
unfolding drawn_line
line-missing d wanted {error} answer = go (ltb (length d.indices) wanted) answer
  where
    go : (b : Bool) → ◌≡◌ {A = Result ℕ DrawError} (Err error) (cond b (Err (AllowanceSpent (length d.indices) d.squeezes)) (Ok d.squeezes))
        → refused_line (number_of (refusal_of error)) ≡ cond b (refused_line 6) (draw_line d.squeezes d.indices)
    go true e =
        let same : error ≡ AllowanceSpent (length d.indices) d.squeezes = cc in
        ap (λ (x : DrawError). refused_line (number_of (refusal_of x))) same
    go false e = absurd (cc)

module _ (h : Header) (words before : List ℕ) {out new : List ℕ} {count : ℕ} (wanted : length before ≡ h.indices) where
  pub front-found : {squeezes : ℕ} {after : List ℕ} → h.indices ≤ 4095 → Ok squeezes ≡ draw_answer none (length before) (draw_by h words (length before))
      → after ≡ in_front (draw_by h words (length before)).indices before
      → Front out (bounded_draw_line squeezes after) new count → Front out (drawn_line h.indices (draw_by h words h.indices)) new count
  front-found {squeezes} room answer slice =
      let d = draw_by h words (length before) in
      front-same
      (ap (bounded_draw_line squeezes) slice
      ∙ line-found d before (omega arith) (draw-found (2 ^ h.log2) h.allowance (length before) (seeded_by words)) answer
      ∙ ap (λ (n : ℕ). drawn_line n (draw_by h words n)) wanted)

  pub front-missing : {error : DrawError} {n : ℕ} → Err error ≡ draw_answer none (length before) (draw_by h words (length before)) → n ≡ number_of (refusal_of error)
      → Front out (refused_line n) new count → Front out (drawn_line h.indices (draw_by h words h.indices)) new count
  front-missing answer number =
      front-same
      (ap refused_line number
      ∙ line-missing (draw_by h words (length before)) (length before) answer
      ∙ ap (λ (n : ℕ). drawn_line n (draw_by h words n)) wanted)
