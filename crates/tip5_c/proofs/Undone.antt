-- The exports undo each other: 128 bytes that are accepted come back byte for byte, whichever way goes first.
-- Assumes nothing.
use mathlib.Core.List.{List}
use mathlib.Core.Path.{◌≡◌, refl, sym, ap, ◌∙◌}
use Prim.Native.Nat.{ℕ, ◌<◌}
use native.Mathlib.Omega.{arith}
use lib.ListN.{get_or, length}
use Rattle.numbers.proofs.Lists.{length-tab}
use Rattle.rounds.specs.Inverse.{inv_permuted}
use Rattle.rounds.specs.Round.{permuted}
use Rattle.rounds.specs.Field.{Below}
use Rattle.rounds.proofs.RoundLaws.{inv_permuted-below, inv_permuted-length, permuted-below, permuted-length}
use Rattle.rounds.proofs.RoundTrip.{inv_permuted-permuted, permuted-inv_permuted}
use Rattle.refusals.specs.Judge.{none, word_refusal}
use Rattle.refusals.proofs.UnlessLaws.{unless-granted}
use Rattle.refusals.proofs.JudgeLaws.{accepted_below, below_accepted}
use Rattle.refusals.proofs.RefusalLaws.{first-last, length-accepted}
use Rattle.tip5_c.specs.Bytes.{byte_at, bytes_of, words_of, word_at}
use Rattle.tip5_c.specs.Export.{after, bytes_refusal}
use Rattle.tip5_c.proofs.RoundTrip.{bytes-of-words-of, words-of-bytes-of}

bytes_of-length : (words : List ℕ) → length (bytes_of words) ≡ 128
unfolding bytes_of
bytes_of-length words = length-tab 128 0 (λ i. byte_at words i)

words_of-length : (bytes : List ℕ) → length (words_of bytes) ≡ 16
unfolding words_of
words_of-length bytes = length-tab 16 0 (λ k. word_at bytes k)

-- what an export leaves in 128 bytes whose words are w, all below P
left : (move : List ℕ → List ℕ) (bytes : List ℕ) {w : List ℕ} → length bytes ≡ 128 → words_of bytes ≡ w → Below w → after move bytes ≡ bytes_of (move w)
left move bytes {w} long e low =
    unless-granted (bytes_of (move (words_of bytes))) bytes
    (first-last (word_refusal (words_of bytes)) (length-accepted bytes long) ∙ ap word_refusal e ∙ below_accepted w low)
    ∙ ap (λ (s : List ℕ). bytes_of (move s)) e

module _
    (move undo : List ℕ → List ℕ)
    (long : (s : List ℕ) → length (move s) ≡ 16)
    (low : (s : List ℕ) → Below (move s))
    (back : (s : List ℕ) → length s ≡ 16 → Below s → undo (move s) ≡ s)
  where
    -- a move that is undone on words is undone on their bytes
    undone : (bytes : List ℕ) → length bytes ≡ 128 → ((i : ℕ) → get_or bytes i 0 < 256) → bytes_refusal bytes ≡ none → after undo (after move bytes) ≡ bytes
    undone bytes e b granted =
        let w = words_of bytes in
        let h : Below w = accepted_below w (sym (first-last (word_refusal (words_of bytes)) (length-accepted bytes e)) ∙ granted) in
        ap (after undo) (left move bytes e refl h)
        ∙ left undo (bytes_of (move w)) (bytes_of-length (move w)) (words-of-bytes-of (move w) (long w) (λ k. omega (arith, low w k))) (low w)
        ∙ ap bytes_of (back w (words_of-length bytes) h)
        ∙ bytes-of-words-of bytes e b

pub inverse-undoes : (bytes : List ℕ) → length bytes ≡ 128 → ((i : ℕ) → get_or bytes i 0 < 256) → bytes_refusal bytes ≡ none → after inv_permuted (after permuted bytes) ≡ bytes
inverse-undoes = undone permuted inv_permuted permuted-length permuted-below inv_permuted-permuted

pub permutation-undoes : (bytes : List ℕ) → length bytes ≡ 128 → ((i : ℕ) → get_or bytes i 0 < 256) → bytes_refusal bytes ≡ none → after permuted (after inv_permuted bytes) ≡ bytes
permutation-undoes = undone inv_permuted permuted inv_permuted-length inv_permuted-below permuted-inv_permuted
