-- A table: its columns lie within the words, a row has as many words as the columns together, each below P, and word k of it is part
-- k % width of column k / width, which a view of that column answers.
-- Assumes nothing.
use mathlib.Core.List.{List, [], ◌∷◌, ◌++◌}
use mathlib.Core.Path.{◌≡◌, ap, sym, ◌∙◌}
use Prim.Native.Nat.{ℕ, ◌+◌, ◌*◌, ◌/◌, ◌%◌, ◌≤◌, ◌<◌}
use native.Mathlib.Nat.{add_comm, le-mul_of_pos_right, mul-div_cancel, mul-le-mul_right}
use native.Mathlib.Numerals.{add-one}
use native.Mathlib.Omega.{arith}
use borrow.Author.Tests.{lt-ltb}
use lib.ListN.{drop, get_or, length, take, length-drop}
use lib.Seq.{get_or-drop, get_or-take, length-take-le, take-suc}
use Rattle.std.specs.Prelude.{Ok}
use Rattle.rounds.specs.Field.{Below}
use Rattle.sponge.proofs.BelowLaws.{drop-below, take-below}
use Rattle.columns.specs.Column.{entry, word_at}
use Rattle.rows.specs.declared.table.Table.{Table}
use Rattle.rows.specs.Rows.{column_of, entry_of, row}
use Rattle.rows.specs.Table.{column_in, entry_in, row_in}
use Rattle.rows.proofs.JoinedLaws.{joined_at, joined-below, joined_length}

-- n words from place a on are n where so many are there
part-length : (a n : ℕ) (ws : List ℕ) → a + n ≤ length ws → length (take n (drop a ws)) ≡ n
part-length a n ws h = length-take-le n (drop a ws) (omega (arith, length-drop a ws))

-- a part of an entry that a view is asked for, where the row is there and the word is good
view-word : (column : List ℕ) (width part r : ℕ) → part < width → r < length column / width → Below column
    → entry column width part r ≡ Ok (word_at column width part r)
view-word column width part r hp hr below = simp (lt-ltb _ _ hp, lt-ltb _ _ hr, lt-ltb _ _ (below (part + r * width)))

module _ (t : Table) where
  -- column c lies within the words
  pub column_fits : (c : ℕ) → c < t.columns → c * (t.rows * t.width) + t.rows * t.width ≤ length t.words.now
  column_fits c h = omega (arith, t.size, mul-le-mul_right (t.rows * t.width) h)

  -- a row is no longer than the words
  pub row_fits : (r : ℕ) → r < t.rows → t.columns * t.width ≤ length t.words.now
  row_fits r h = omega (arith, t.size, le-mul_of_pos_right {m = t.rows} (t.columns * t.width) (omega arith))

  -- it has as many words as entries have parts
  column-length : (c : ℕ) → c < t.columns → length (column_in t c) ≡ t.rows * t.width
  unfolding column_of
  column-length c h = part-length (c * (t.rows * t.width)) (t.rows * t.width) t.words.now (column_fits c h)

  -- its words are below P
  column-below : (c : ℕ) → Below (column_in t c)
  unfolding column_of
  column-below c = take-below (t.rows * t.width) _ (drop-below (c * (t.rows * t.width)) t.words.now t.below)

  -- an entry has as many words as the width says
  pub entry_length : (c r : ℕ) → c < t.columns → r < t.rows → length (entry_in t c r) ≡ t.width
  unfolding entry_of
  entry_length c r hc hr =
      part-length (r * t.width) t.width (column_in t c) (omega (arith, column-length c hc, mul-le-mul_right t.width hr))

  -- the view of a column answers a part of an entry
  pub view_part : (c r part : ℕ) → c < t.columns → r < t.rows → part < t.width
      → entry (column_in t c) t.width part r ≡ Ok (get_or (entry_in t c r) part 0)
  unfolding entry_of
  view_part c r part hc hr hp =
      let column = column_in t c in
      let rows = ap (λ (n : ℕ). n / t.width) (column-length c hc) ∙ mul-div_cancel t.rows {n = t.width} t.wide in
      let there : r < length column / t.width = omega (arith, rows) in
      view-word column t.width part r hp there (column-below c)
      ∙ ap (λ (k : ℕ). Ok (get_or column k 0)) (add_comm part (r * t.width))
      ∙ ap Ok (sym (get_or-take t.width (drop (r * t.width) column) part 0 hp ∙ get_or-drop (r * t.width) column part 0))

  -- The words of a row

  -- how many
  pub row_length : (r : ℕ) → r < t.rows → length (row_in t r) ≡ t.columns * t.width
  unfolding row
  row_length r h = joined_length _ t.width t.columns λ c hc. entry_length c r hc h

  -- below P
  pub row_below : (r : ℕ) → Below (row_in t r)
  unfolding row entry_of
  row_below r = joined-below t.columns _ λ c. take-below t.width _ (drop-below (r * t.width) _ (column-below c))

  -- word k is part k % width of column k / width
  pub row_at : (r : ℕ) → r < t.rows → (k : ℕ) → k < t.columns * t.width
      → get_or (row_in t r) k 0 ≡ get_or (entry_in t (k / t.width) r) (k % t.width) 0
  unfolding row
  row_at r h k l = joined_at _ t.width t.columns (λ c hc. entry_length c r hc h) k l

  -- the same in what is left of a row
  pub rest_at : (r : ℕ) → r < t.rows → (at i : ℕ) → at + i < t.columns * t.width
      → get_or (drop at (row_in t r)) i 0 ≡ get_or (entry_in t ((at + i) / t.width) r) ((at + i) % t.width) 0
  rest_at r h at i l = get_or-drop at (row_in t r) i 0 ∙ row_at r h (at + i) l

  -- one word more of it
  pub row_more : (r at i : ℕ) → r < t.rows → at + i < t.columns * t.width
      → take (i + 1) (drop at (row_in t r)) ≡ take i (drop at (row_in t r)) ++ get_or (entry_in t ((at + i) / t.width) r) ((at + i) % t.width) 0 ∷ []
  row_more r at i h l =
      ap (λ (n : ℕ). take n (drop at (row_in t r))) (add-one i)
      ∙ take-suc (drop at (row_in t r)) i 0 (omega (arith, length-drop at (row_in t r), row_length r h))
      ∙ ap (λ (w : ℕ). take i (drop at (row_in t r)) ++ w ∷ []) (rest_at r h at i l)
