-- A call in place: which refusal a lent slice has, and what stands in it after.
-- Assumes nothing.
use mathlib.Core.List.{List}
use mathlib.Core.Path.{◌≡◌, sym, ap, ◌∙◌}
use Prim.Native.Nat.{ℕ, ◌<◌}
use borrow.Author.Tests.{ne_eqb}
use lib.ListN.{length}
use Rattle.std.specs.Prelude.{Err}
use Rattle.refusals.specs.declared.refusal.Refusal.TheVariants.{WrongLength}
use Rattle.refusals.specs.Judge.{Judgement, unless}
use Rattle.refusals.proofs.RefusalLaws.{first-last, round-accepted}
use Rattle.states.specs.InPlace.{round_slice_refusal, slice_refusal}

-- a slice that is not sixteen words
pub slice-refused : (s : List ℕ) → (length s ≡ 16 → ⊥) → Err WrongLength ≡ slice_refusal s
slice-refused s h = sym (simp (ne_eqb _ _ h))

-- what a call in place promises: its refusal, and the slice moved or left alone
abbrev pub InPlace : (refusal : Judgement) (next before : List ℕ) (r : Judgement) (after : List ℕ) → Type 0
InPlace n next s r after = (r ≡ n) × (after ≡ unless n next s)

-- a round of a slice, where there is such a round, forth or back
pub slice-round : {i : ℕ} (next s : List ℕ) → i < 5 → {r : Judgement} {after : List ℕ}
    → InPlace (slice_refusal s) next s r after → InPlace (round_slice_refusal i s) next s r after
slice-round next s h p =
    let n = sym (first-last (slice_refusal s) (round-accepted h)) in
    (p.0 ∙ n, p.1 ∙ ap (λ (n : Judgement). unless n next s) n)
