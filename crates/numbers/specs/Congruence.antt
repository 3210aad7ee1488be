-- Congruence of numbers.
use Rattle.std.specs.Prelude.{◌≡◌, ℕ, ◌%◌}

-- a and b leave the same remainder modulo m; a record, so that a law can leave its numbers implicit
pub record Cong (m a b : ℕ) : Type 0 where
  pub same : a % m ≡ b % m
