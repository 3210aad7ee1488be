-- The shift that makes a power of two.
-- Assumes nothing.
use mathlib.Core.Path.{◌≡◌, ◌∙◌}
use Prim.Native.Nat.{ℕ, ◌*◌, ◌%◌, ◌^◌, ◌<◌}
use native.Mathlib.Nat.{one-mul}
use native.Mathlib.Omega.{arith}
use lib.Dec.{lit<}
use lib.Pow.{shl_exact}

-- 1 shifted by k places is 2 ^ k in a word of w bits
pub shifted-one : {w : ℕ} (k : ℕ) → k < w → 1 * 2 ^ k % 2 ^ w ≡ 2 ^ k
shifted-one {w} k h = shl_exact 1 k w (lit< tt) (omega arith) ∙ one-mul (2 ^ k)
