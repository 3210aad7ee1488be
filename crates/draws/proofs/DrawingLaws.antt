-- A draw in progress, as a loop makes it: what is found is the draw with the squeezes so far for its allowance.
-- Assumes nothing.
use mathlib.Core.List.{List, [], ◌∷◌, ◌++◌}
use mathlib.Core.Path.{◌≡◌, ap, ap₂, subst⁻¹, sym, ◌∙◌}
use Prim.Native.Nat.{ℕ, ◌+◌, ◌-◌, ◌≤◌, ◌<◌}
use native.Mathlib.Omega.{arith}
use borrow.Author.Tests.{le-ltb, lt-ltb}
use borrow.Rule.Slice.PartMut.{mid_of, put_mid}
use lib.ListN.{drop, length, take, length-append, length-drop}
use Rattle.std.specs.Prelude.{Result, Ok, Err}
use Rattle.rounds.specs.Field.{Below}
use Rattle.refusals.specs.declared.refusal.Refusal.{Refusal}
use Rattle.refusals.specs.Judge.{Judgement, none, unless}
use Rattle.refusals.proofs.RefusalLaws.{first-one, first-past}
use Rattle.sponge.specs.declared.Tip5.{Tip5}
use Rattle.sponge.specs.Answers.{squeeze, squeeze_refusal}
use Rattle.sponge.specs.InPlace.{leaving_ten}
use Rattle.sponge.specs.Sponge.{rate, squeezed}
use Rattle.sponge.proofs.SpongeLaws.{squeezed-below}
use Rattle.draws.specs.declared.error.DrawError.{DrawError}
use Rattle.draws.specs.declared.error.DrawError.TheVariants.{AllowanceSpent}
use Rattle.draws.specs.Answers.{draw_answer, draw_refusal, in_front, sample_indices, sampled_slice}
use Rattle.draws.specs.Bound.{bound_refusal}
use Rattle.draws.specs.Draw.{Draw, draw, from_ten, from_words, joined, nothing}
use Rattle.draws.specs.Filled.{filled}
use Rattle.draws.proofs.AllowanceLaws.{draw-enough}
use Rattle.draws.proofs.DrawLaws.{draw-add, draw-found, draw-spent, draw-turn, joined-nothing}
use Rattle.draws.proofs.FilledLaws.{front-more, lent-rest, put-rest}
use Rattle.draws.proofs.SqueezeLaws.{squeeze-made}

-- the draw was not refused, its sponge can be squeezed, and the counts, the sponge and the slice are those of the draw with the
-- squeezes so far for its allowance
pub record Drawing (bound allowance : ℕ) (start : Tip5) (before now : List ℕ) (found squeezes : ℕ) (sponge : Tip5) : Type 0 where
  pub accepted : draw_refusal start bound ≡ none
  pub below : Below sponge.state
  pub allowed : squeezes ≤ allowance
  pub counted : found ≡ length (draw bound squeezes (length before) start).indices
  pub made : squeezes ≡ (draw bound squeezes (length before) start).squeezes
  pub moved : sponge ≡ (draw bound squeezes (length before) start).sponge
  pub stored : now ≡ in_front (draw bound squeezes (length before) start).indices before

-- before the first squeeze
pub drawing_starts : (bound allowance : ℕ) (s : Tip5) (before : List ℕ) → none ≡ squeeze_refusal s → none ≡ bound_refusal bound → Below s.state → Drawing bound allowance s before before 0 0 s
drawing_starts bound allowance s before words bounds h =
    let none = sym (draw-spent bound (length before) s) in
    record {
      accepted = first-past (bound_refusal bound ∷ []) (sym words) ∙ first-one (bound_refusal bound) ∙ sym bounds;
      below = h;
      allowed = omega arith;
      counted = ap (λ (d : Draw). length d.indices) none;
      made = ap (λ (d : Draw). d.squeezes) none;
      moved = ap (λ (d : Draw). d.sponge) none;
      stored = ap (λ (d : Draw). in_front d.indices before) none;
    }

module _ {bound allowance : ℕ} {start : Tip5} {before now : List ℕ} {found squeezes : ℕ} {sponge : Tip5} where
  drawing-long : Drawing bound allowance start before now found squeezes sponge → length now ≡ length before
  drawing-long d =
      let so_far = (draw bound squeezes (length before) start).indices in
      omega (arith, ap length d.stored, length-append so_far (drop (length so_far) before), length-drop (length so_far) before, draw-found bound squeezes (length before) start)

  pub drawing_room : Drawing bound allowance start before now found squeezes sponge → found ≤ length now
  drawing_room d = omega (arith, d.counted, drawing-long d, draw-found bound squeezes (length before) start)

  -- after another squeeze, with its words put at the front of the rest of the slice
  pub drawing_turn : {r : Result (List ℕ) Refusal} {ten put : List ℕ} {n : ℕ} {next : Tip5} → Drawing bound allowance start before now found squeezes sponge
      → found < length now → squeezes < allowance
      → (r, next) ≡ leaving_ten (squeeze sponge) sponge → r ≡ Ok ten
      → (n, put) ≡ filled (from_words bound ten) (mid_of found (length now - found) now)
      → Drawing bound allowance start before (put_mid found (length now - found) now put) (found + n) (squeezes + 1) next
  unfolding from_ten
  drawing_turn {r} {ten = words} {put} {n} {next} d missing unspent one made e =
      let both = squeeze-made sponge d.below one in
      let squeezes-it : next ≡ squeezed sponge = both.1 in
      let words-are : words ≡ rate sponge = cc in
      let so_far = draw bound squeezes (length before) start in
      let ten = from_ten bound (length before - found) sponge in
      let long = drawing-long d in
      let turn : draw bound 1 (length before - length so_far.indices) so_far.sponge ≡ ten =
      ap₂ (λ (k : ℕ) (s : Tip5). draw bound 1 (length before - k) s) (sym d.counted) (sym d.moved)
      ∙ draw-turn bound 0 (length before - found) sponge (omega arith)
      ∙ ap (joined ten) (draw-spent bound (length before - found - length ten.indices) ten.sponge)
      ∙ joined-nothing ten in
      let whole : joined so_far ten ≡ draw bound (squeezes + 1) (length before) start = sym (draw-add bound squeezes 1 (length before) start ∙ ap (joined so_far) turn) in
      let free : ◌≡◌ {A = ℕ × List ℕ} (n, put) (length ten.indices, in_front ten.indices (drop found now)) =
      e ∙ ap₂ (λ (ws l : List ℕ). filled (from_words bound ws) l) words-are (lent-rest found now)
      ∙ ap (λ (k : ℕ). (let l = take k (from_words bound (rate sponge)) in (length l, in_front l (drop found now)))) (length-drop found now ∙ ap (λ (k : ℕ). k - found) long) in
      record {
        accepted = d.accepted;
        below = subst⁻¹ (λ (s : Tip5). Below s.state) squeezes-it (squeezed-below sponge);
        allowed = omega arith;
        counted = ap₂ (λ (k m : ℕ). k + m) d.counted (ap (λ (p : ℕ × List ℕ). p.0) free) ∙ sym (length-append so_far.indices ten.indices) ∙ ap (λ (w : Draw). length w.indices) whole;
        made = ap (λ (k : ℕ). k + 1) d.made ∙ ap (λ (w : Draw). w.squeezes) whole;
        moved = squeezes-it ∙ ap (λ (w : Draw). w.sponge) whole;
        stored =
            put-rest found now put
            ∙ ap (λ (l : List ℕ). take found now ++ l) (ap (λ (p : ℕ × List ℕ). p.1) free)
            ∙ ap₂ (λ (k : ℕ) (l : List ℕ). take k l ++ in_front ten.indices (drop k l)) d.counted d.stored
            ∙ sym (front-more so_far.indices ten.indices before)
            ∙ ap (λ (w : Draw). in_front w.indices before) whole;
      }

  -- what a call answers and leaves that made all its squeezes
  ended : Drawing bound allowance start before now found squeezes sponge → (let so_far = draw bound squeezes (length before) start in
      draw bound allowance (length before) start ≡ so_far
      → ((draw_answer none (length before) so_far, sponge) ≡ sample_indices start bound allowance (length before)) × (now ≡ sampled_slice start bound allowance before))
  ended d all =
      let so_far = draw bound squeezes (length before) start in (
        ap (λ (s : Tip5). (draw_answer none (length before) so_far, s)) d.moved
            ∙ sym (ap₂ (λ (j : Judgement) (w : Draw). (draw_answer j (length before) (unless j w (nothing start)), (unless j w (nothing start)).sponge)) d.accepted all),
        d.stored ∙ sym (ap₂ (λ (j : Judgement) (w : Draw). in_front (unless j w (nothing start)).indices before) d.accepted all),
      )

  -- all are found
  pub drawing_full : Drawing bound allowance start before now found squeezes sponge → length now ≤ found
      → ((Ok squeezes, sponge) ≡ sample_indices start bound allowance (length before)) × (now ≡ sampled_slice start bound allowance before)
  drawing_full d all =
      let so_far = draw bound squeezes (length before) start in
      let enough : length before ≤ length so_far.indices = omega (arith, d.counted, drawing-long d) in
      let answer : Ok squeezes ≡ draw_answer none (length before) so_far = ap Ok d.made ∙ sym (rw (le-ltb (length so_far.indices) (length before) enough)) in
      let end = ended d (draw-enough bound (length before) start d.allowed enough) in
      (ap (λ (r : Result ℕ DrawError). (r, sponge)) answer ∙ end.0, end.1)

  -- some are missing, and the allowance is spent
  pub drawing_short : Drawing bound allowance start before now found squeezes sponge → found < length now → squeezes ≡ allowance
      → ((Err (AllowanceSpent found squeezes), sponge) ≡ sample_indices start bound allowance (length before)) × (now ≡ sampled_slice start bound allowance before)
  drawing_short d missing spent =
      let so_far = draw bound squeezes (length before) start in
      let short : length so_far.indices < length before = omega (arith, d.counted, drawing-long d) in
      let answer : Err (AllowanceSpent found squeezes) ≡ draw_answer none (length before) so_far =
      ap₂ (λ (k m : ℕ). Err (AllowanceSpent k m)) d.counted d.made ∙ sym (rw (lt-ltb (length so_far.indices) (length before) short)) in
      let end = ended d (ap (λ (a : ℕ). draw bound a (length before) start) (sym spent)) in
      (ap (λ (r : Result ℕ DrawError). (r, sponge)) answer ∙ end.0, end.1)
