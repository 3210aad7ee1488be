-- `layers::mds_generated` meets its contract.
-- Assumes nothing.
use mathlib.Core.List.{List}
use mathlib.Core.Path.{◌≡◌, ap, sym, ◌∙◌}
use Prim.Native.Nat.{ℕ, ◌+◌, ◌*◌, ◌/◌, ◌%◌, ◌^◌, ◌<◌}
use native.Mathlib.Omega.{arith}
use borrow.Author.Rules.{rules}
use lib.ListN.{get_or}
use mir.Syntax.{w64}
use mir.Val.{Fits}
use Rattle.numbers.specs.Circulant.{row_sum}
use Rattle.numbers.specs.Lists.{tab}
use Rattle.numbers.proofs.Fill.{filled-all}
use Rattle.numbers.proofs.Lists.{get_or-tab₀, tab-same, tab-unique}
use Rattle.matrix.specs.Column.{mds_column}
use Rattle.tip5.specs.Reduced.{reduced}
use Rattle.tip5.proofs.HalvesLaws.{halves-joined, lower, upper}
use Rattle.tip5.proofs.layers.mds_generated.Goals as goal

-- what the generated function answers, and one word of it

abbrev times16 : List ℕ → List ℕ
times16 l = tab 16 0 (λ i. (16 * row_sum mds_column l i) % 2 ^ 64)

outcome : (l : List ℕ) {out : List ℕ} → out ≡ times16 l → (i : ℕ) → i < 16 → get_or out i 0 ≡ (16 * row_sum mds_column l i) % 2 ^ 64
outcome l e i h = ap (λ (xs : List ℕ). get_or xs i 0) e ∙ get_or-tab₀ 16 (λ i. (16 * row_sum mds_column l i) % 2 ^ 64) i h

word : (c : goal.After-loop-i) (k : ℕ) → get_or c.raw_words-words.result k 0 < 2 ^ 64
word c k = let f : Fits w64 (get_or c.raw_words-words.result k 0) = search rules in f.fits

pub returns : goal.returns
returns c =
    let s = c.raw_words-words.result in
    let lo : c.map.result ≡ lower s = sym (tab-unique c.map.result (λ k. get_or s k 0 % 2 ^ 32) c.map.ensures.items.long (λ k h. let f = c.map.ensures.items.at k 0 0 h in search rules)) in
    let hi : c.map-2.result ≡ upper s = sym (tab-unique c.map-2.result (λ k. get_or s k 0 / 2 ^ 32) c.map-2.ensures.items.long (λ k h. let f = c.map-2.ensures.items.at k 0 0 h in search rules)) in
    filled-all c.loop-i.invariant (omega arith)
    ∙ tab-same 16 0 {f = λ i. reduced (get_or c.generated_function-lo.result i 0 / 16 + get_or c.generated_function-hi.result i 0 * 2 ^ 28)} {g = λ i. reduced (row_sum mds_column s i)}
    (λ i l u. ap reduced ((λ j. outcome (lower s) (c.generated_function-lo.ensures ∙ ap times16 lo) i u j / 16 + outcome (upper s) (c.generated_function-hi.ensures ∙ ap times16 hi) i u j * 2 ^ 28) ∙ halves-joined s (word c) i))
    ∙ ap (λ (l : List ℕ). tab 16 0 (λ i. reduced (row_sum mds_column l i))) c.raw_words-words.ensures
