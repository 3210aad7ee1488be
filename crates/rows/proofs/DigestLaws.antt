-- Digests of rows: none, one more, how many there are and how long they are in their room; and where a digest stands in a sponge.
-- Assumes nothing.
use mathlib.Core.List.{List, [], ◌++◌}
use mathlib.Core.Path.{◌≡◌, refl, ap}
use Prim.Native.Nat.{ℕ, zero, suc, ◌+◌, ◌*◌, ◌≤◌}
use native.Mathlib.Numerals.{add-one}
use native.Mathlib.Omega.{arith}
use lib.ListN.{drop, length, take, length-append, length-drop}
use Rattle.sponge.specs.declared.Domain.TheVariants.{VariableLength}
use Rattle.sponge.specs.declared.Tip5.{Tip5}
use Rattle.sponge.specs.Digest.{digest, digest_of}
use Rattle.sponge.specs.History.{padded_steps, run}
use Rattle.sponge.specs.Sponge.{start}
use Rattle.sponge.proofs.DigestLaws.{digest_of-length}
use Rattle.rows.specs.declared.table.Table.{Table}
use Rattle.rows.specs.Rows.{digest_count, joined, row}
use Rattle.rows.specs.Table.{digests_in, row_in}
use Rattle.rows.proofs.JoinedLaws.{joined_length}

pub digests_none : (t : Table) → digests_in t 0 ≡ []
unfolding joined
digests_none t = refl

pub digests_more : (t : Table) (n : ℕ) → digests_in t (n + 1) ≡ digests_in t n ++ digest_of (row_in t n)
unfolding joined
digests_more t n = ap (digests_in t) (add-one n)

-- no more digests than rows
pub count_le : (columns rows : ℕ) → digest_count columns rows ≤ rows
unfolding digest_count
count_le zero rows = omega arith
count_le (suc n) rows = omega arith

-- the digest is the first five words of the sponge that absorbed the list
pub digest_of-take : (ws : List ℕ) {s : Tip5} → s ≡ run (padded_steps ws) (start VariableLength) → take 5 s.state ≡ digest_of ws
unfolding digest_of digest
digest_of-take ws e = ap (λ (s : Tip5). take 5 s.state) e

-- the digests of the first n rows of any words in room for all
module _ (words : List ℕ) (columns rows width : ℕ) (room : List ℕ) where
  -- and the room as it was after them
  abbrev pub front : ℕ → List ℕ
  front n = joined n (λ r. digest_of (row words columns rows width r)) ++ drop (n * 5) room

  -- they leave the room as long as it was, five words a digest
  pub front_length : (n : ℕ) → n * 5 ≤ length room → length (front n) ≡ length room
  front_length n h =
      let digests = joined n (λ r. digest_of (row words columns rows width r)) in
      omega (
        arith,
        length-append digests (drop (n * 5) room),
        length-drop (n * 5) room,
        joined_length (λ r. digest_of (row words columns rows width r)) 5 n (λ i l. digest_of-length (row words columns rows width i)),
      )
