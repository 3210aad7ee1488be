-- What is not refused: words of the shape that the numbers say, each below P, and room for the digests.
-- Assumes nothing.
use mathlib.Core.List.{List, [], ◌∷◌}
use mathlib.Core.Path.{◌≡◌}
use Prim.Native.Nat.{ℕ, zero, suc, ◌*◌, ◌<◌}
use native.Mathlib.Omega.{arith}
use borrow.Author.Tests.{eqb-true}
use lib.Dec.{eqb}
use lib.ListN.{length}
use Rattle.rounds.specs.Field.{Below}
use Rattle.refusals.specs.declared.refusal.Refusal.TheVariants.{WrongShape}
use Rattle.refusals.specs.Judge.{length_refusal, none, word_refusal}
use Rattle.refusals.proofs.JudgeLaws.{accepted_below, passed, refused-not-none}
use Rattle.refusals.proofs.RefusalLaws.{accepted-length, none-first}
use Rattle.rows.specs.Rows.{digest_count, rows_refusal, size_refusal, width_refusal}

-- a width is not 0
pub accepted-width : (width : ℕ) → width_refusal width ≡ none → 0 < width
accepted-width zero e = absurd (refused-not-none e)
accepted-width (suc n) e = omega arith

pub accepted-rows : (words : List ℕ) (columns rows width : ℕ) (room : List ℕ) → rows_refusal words columns rows width room ≡ none
    → (0 < width) × (length words ≡ columns * rows * width) × Below words × (length room ≡ 5 * digest_count columns rows)
accepted-rows words columns rows width room e =
    let size = size_refusal words columns rows width in
    let places = length_refusal (5 * digest_count columns rows) room in
    let wide = none-first (width_refusal width) (size ∷ places ∷ word_refusal words ∷ []) e in
    let long = none-first size (places ∷ word_refusal words ∷ []) wide.1 in
    let fits = none-first places (word_refusal words ∷ []) long.1 in (
      accepted-width width wide.0,
      eqb-true (length words) (columns * rows * width) (passed (eqb (length words) (columns * rows * width)) WrongShape long.0),
      accepted_below words (none-first (word_refusal words) [] fits.1).0,
      accepted-length (5 * digest_count columns rows) room fits.0,
    )
