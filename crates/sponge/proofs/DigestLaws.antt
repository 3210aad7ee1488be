-- A digest is five words below P, so it can be hashed again.
-- Assumes nothing.
use mathlib.Core.List.{List, ◌++◌}
use mathlib.Core.Path.{◌≡◌}
use Prim.Native.Nat.{ℕ}
use native.Mathlib.Omega.{arith}
use lib.ListN.{length, length-take}
use Rattle.rounds.specs.Field.{Below}
use Rattle.sponge.specs.declared.Domain.TheVariants.{VariableLength, FixedLength}
use Rattle.sponge.specs.declared.Tip5.{Tip5}
use Rattle.sponge.specs.Digest.{digest, digest_of, digest_of_pair, digest_of_ten}
use Rattle.sponge.specs.History.{padded_steps}
use Rattle.sponge.specs.Sponge.{start}
use Rattle.sponge.proofs.BelowLaws.{take-below}
use Rattle.sponge.proofs.HistoryLaws.{run-below, run-length}
use Rattle.sponge.proofs.SpongeLaws.{absorbed_below, absorbed-length, start_below, start-length}

pub digest-length : (s : Tip5) → length s.state ≡ 16 → length (digest s) ≡ 5
unfolding digest
digest-length s e = omega (arith, length-take 5 s.state)

pub digest-below : (s : Tip5) → Below s.state → Below (digest s)
unfolding digest
digest-below s h = take-below 5 s.state h

-- of ten words, of a pair, of words of any number

pub digest_of_ten-length : (ten : List ℕ) → length (digest_of_ten ten) ≡ 5
unfolding digest_of_ten
digest_of_ten-length ten = digest-length _ (absorbed-length ten (start FixedLength))

pub digest_of_ten-below : (ten : List ℕ) → Below (digest_of_ten ten)
unfolding digest_of_ten
digest_of_ten-below ten = digest-below _ (absorbed_below ten (start FixedLength))

pub digest_of_pair-length : (left right : List ℕ) → length (digest_of_pair left right) ≡ 5
unfolding digest_of_pair
digest_of_pair-length left right = digest_of_ten-length (left ++ right)

pub digest_of_pair-below : (left right : List ℕ) → Below (digest_of_pair left right)
unfolding digest_of_pair
digest_of_pair-below left right = digest_of_ten-below (left ++ right)

pub digest_of-length : (input : List ℕ) → length (digest_of input) ≡ 5
unfolding digest_of
digest_of-length input = digest-length _ (run-length (padded_steps input) (start VariableLength) (start-length VariableLength))

pub digest_of-below : (input : List ℕ) → Below (digest_of input)
unfolding digest_of
digest_of-below input = digest-below _ (run-below (padded_steps input) (start VariableLength) (start_below VariableLength))
