-- Padding: an input of any length as tens.
use Rattle.std.specs.Prelude.{List, [], ◌∷◌, ◌++◌, ℕ, zero, suc, ◌-◌, ◌/◌, drop, length, replicate, take}
use Rattle.sponge.specs.Sponge.{one}

-- the rest, which is at most nine words, followed by ONE and zeros
unfoldable pub last_ten : (rest : List ℕ) → List ℕ
last_ten rest = rest ++ one ∷ replicate (9 - length rest) 0

-- n whole tens, then the last
unfoldable pub tens : (n : ℕ) → List ℕ → List (List ℕ)
tens zero rest = last_ten rest ∷ []
tens (suc n) words = take 10 words ∷ tens n (drop 10 words)

-- as many whole tens as there are
unfoldable pub padded : List ℕ → List (List ℕ)
padded words = tens (length words / 10) words
