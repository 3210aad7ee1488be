-- What a call has done that wrote bytes into a list.
use Rattle.std.specs.Prelude.{◌≡◌, List, ◌++◌, ℕ, length, drop}

-- the bytes stand at the front, what stood after them is as it was, and `count` is their number
pub record Front (before bytes after : List ℕ) (count : ℕ) : Type 0 where
  pub stored : after ≡ bytes ++ drop (length bytes) before
  pub counted : count ≡ length bytes
