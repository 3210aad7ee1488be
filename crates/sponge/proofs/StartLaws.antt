-- What is judged already: a start has no bad word, so of a call on it the input alone is judged; and two judged digests.
-- Assumes nothing.
use mathlib.Core.List.{List, [], ◌∷◌, ◌++◌}
use mathlib.Core.Path.{◌≡◌, refl, ap, ◌∙◌}
use Prim.Native.Nat.{ℕ}
use native.Mathlib.Omega.{arith}
use lib.ListN.{length, length-append}
use Rattle.std.specs.Prelude.{Ok, Err}
use Rattle.rounds.specs.Field.{Below}
use Rattle.refusals.specs.Judge.{Judgement, first, length_refusal, none, word_refusal}
use Rattle.refusals.proofs.JudgeLaws.{below_accepted}
use Rattle.refusals.proofs.RefusalLaws.{first-last, first-none, length-accepted}
use Rattle.sponge.specs.declared.Domain.{Domain}
use Rattle.sponge.specs.Answers.{absorb_refusal, hash10_refusal, pad_refusal}
use Rattle.sponge.specs.Sponge.{start}
use Rattle.sponge.proofs.BelowLaws.{append-below}
use Rattle.sponge.proofs.SpongeLaws.{start_below}

pub input_judged : (domain : Domain) (input : List ℕ) → pad_refusal (start domain) input ≡ word_refusal input
input_judged domain input = first-last (word_refusal input) (below_accepted (start domain).state (start_below domain))

second-none : (j : Judgement) (js : List Judgement) → first (j ∷ none ∷ js) ≡ first (j ∷ js)
second-none (Ok done) js = refl
second-none (Err refusal) js = refl

pub ten_judged : (domain : Domain) (ten : List ℕ) → absorb_refusal (start domain) ten ≡ hash10_refusal ten
ten_judged domain ten =
    ap (λ (j : Judgement). first (length_refusal 10 ten ∷ j ∷ word_refusal ten ∷ [])) (below_accepted (start domain).state (start_below domain))
    ∙ second-none (length_refusal 10 ten) (word_refusal ten ∷ [])

-- two digests that were judged are ten words that need not be judged again
pub pair_judged : (left right : List ℕ) → length left ≡ 5 → length right ≡ 5 → Below left → Below right → hash10_refusal (left ++ right) ≡ none
pair_judged left right el er hl hr =
    first-none (word_refusal (left ++ right) ∷ []) (length-accepted (left ++ right) (omega (arith, length-append left right)))
    (first-none [] (below_accepted (left ++ right) (append-below left right hl hr)) refl)
