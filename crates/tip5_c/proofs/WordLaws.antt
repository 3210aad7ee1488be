-- The laws of words and bytes: a word from eight bytes, and the bytes of it.
-- Assumes nothing.
use mathlib.Core.List.{List, ◌++◌}
use mathlib.Core.Path.{◌≡◌, refl, sym, ap, ap₂, ◌∙◌}
use Prim.Native.Nat.{ℕ, zero, suc, ◌+◌, ◌-◌, ◌*◌, ◌/◌, ◌%◌, ◌^◌, ◌<◌}
use native.Mathlib.Decide.{dec_lt}
use native.Mathlib.Nat.{div-one}
use native.Mathlib.Omega.{arith}
use borrow.Rule.Slice.PartMut.{put_mid}
use lib.ListN.{drop, get_or, get_or-append, length, take}
use lib.Seq.{drop-drop}
use Rattle.std.proofs.Common.{rules}
use Rattle.std.proofs.lemmas.List.{get_or-append_right, get_or-drop, get_or-take, length-take-le, places}
use Rattle.std.specs.Int.{bytes_low_first, from_le_bytes, to_le_bytes, w64}
use Rattle.std.specs.Simd.{first_chunks}
use Rattle.numbers.specs.Fill.{Filled}
use Rattle.tip5_c.specs.Bytes.{byte_at, word_at}

-- chunk k of eight entries
chunk-at : (m k : ℕ) (xs none : List ℕ) → k < m → get_or (first_chunks 8 m xs) k none ≡ take 8 (drop (8 * k) xs)
chunk-at zero k xs none h = absurd (omega arith)
chunk-at (suc m) zero xs none h = refl
chunk-at (suc m) (suc k) xs none h =
    chunk-at m k (drop 8 xs) none (omega arith) ∙ ap (λ (l : List ℕ). take 8 l) (drop-drop (8 * k) 8 xs ∙ ap (λ (i : ℕ). drop i xs) (omega arith))

-- word k is what the eight bytes of chunk k are
pub word-of-chunk : (bytes : List ℕ) (m k : ℕ) (none : List ℕ) → k < m → from_le_bytes w64 (get_or (first_chunks 8 m bytes) k none) ≡ word_at bytes k
unfolding word_at
word-of-chunk bytes m k none h = omega (arith, byte 0 (omega arith), byte 1 (omega arith), byte 2 (omega arith), byte 3 (omega arith), byte 4 (omega arith), byte 5 (omega arith), byte 6 (omega arith), byte 7 (omega arith))
  where
    byte : (j : ℕ) → j < 8 → get_or (get_or (first_chunks 8 m bytes) k none) j 0 ≡ get_or bytes (8 * k + j) 0
    byte j l = ap (λ (e : List ℕ). get_or e j 0) (chunk-at m k bytes none h) ∙ get_or-take 8 (drop (8 * k) bytes) j 0 l ∙ get_or-drop (8 * k) bytes j 0

-- byte j of word k
pub byte-of-word : (words : List ℕ) (k : ℕ) {j : ℕ} → j < 8 → byte_at words (8 * k + j) ≡ get_or words k 0 / 256 ^ j % 256
unfolding byte_at
byte-of-word words k {j} h =
    ap₂ (λ (q r : ℕ). get_or words q 0 / 256 ^ r % 256) (omega arith) (omega arith)

-- byte j of those that `to_le_bytes` gives
low-byte : (i k n j : ℕ) → j < k → get_or (bytes_low_first i k n) j 0 ≡ n / 256 ^ (i + j) % 256
low-byte i zero n j h = absurd (omega arith)
low-byte zero (suc k) n zero h = ap (λ (q : ℕ). q % 256) (sym (div-one n))
low-byte (suc i) (suc k) n zero h = ap (λ (p : ℕ). n / 256 ^ p % 256) (omega arith)
low-byte i (suc k) n (suc j) h = low-byte (suc i) k n j (omega arith) ∙ ap (λ (p : ℕ). n / 256 ^ p % 256) (omega arith)

-- the bytes of one word more
pub filled-word : (ws : List ℕ) {out ys : List ℕ} {k m : ℕ} → Filled 128 (byte_at ws) (8 * k) out → k < 16 → m ≡ 8 → ys ≡ to_le_bytes w64 (get_or ws k 0)
    → Filled 128 (byte_at ws) (8 * (k + 1)) (put_mid (8 * k) m out ys)
filled-word ws {out} {ys} {k} {m} h l e bytes =
    record {
      within = omega arith;
      long = search (rules, places);
      front = λ i i<. elim (dec_lt i (8 * k)) [
        | yes b ↦ get_or-append front rest 0 i (omega (arith, long)) ∙ get_or-take (8 * k) out i 0 b ∙ h.front i b
        | no b ↦
            let j : 8 * k + (0 + (i - 8 * k)) ≡ i = omega arith in
            get_or-append_right front rest (8 * k) i 0 long (omega arith)
            ∙ get_or-append ys (drop m (drop (8 * k) out)) 0 (i - 8 * k) (omega (arith, eight))
            ∙ ap (λ (bs : List ℕ). get_or bs (i - 8 * k) 0) bytes
            ∙ low-byte 0 8 (get_or ws k 0) (i - 8 * k) (omega arith)
            ∙ sym (byte-of-word ws k (omega arith))
            ∙ ap (byte_at ws) j
      ];
    }
  where
    front : List ℕ
    front = take (8 * k) out

    rest : List ℕ
    rest = ys ++ drop m (drop (8 * k) out)

    long : length front ≡ 8 * k
    long = length-take-le (8 * k) out (omega (arith, h.long))

    eight : length ys ≡ 8
    eight = ap length bytes
