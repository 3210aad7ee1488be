-- How the proofs of the matrix read words that wrap: modulo 2 ^ 64 the inner remainders fall away, a difference is a
-- sum with 2 ^ 64 - 1 times what is taken, and what is left is a linear form, which `grind` compares with a row.
-- Assumes nothing.
use Rattle.std.proofs.Common.{◌≡◌, ℕ, ◌+◌, ◌-◌, ◌*◌, ◌%◌, ◌^◌, List, ◌++◌, take, drop, take-append-drop, sym, ◌∙◌, arith}
use Rattle.std.proofs.Math.Nat.{add-mod-mod, mod-add-mod}
use Rattle.std.proofs.lemmas.Nat.{mul-mod_first}

-- what a word lacks to 2 ^ 64 is 2 ^ 64 - 1 times the word
pub add-lack-mod : (x y : ℕ) → (x + (2 ^ 64 - y % 2 ^ 64)) % 2 ^ 64 ≡ (x + (2 ^ 64 - 1) * y) % 2 ^ 64
add-lack-mod x y = omega arith

-- the inner remainders
pub ruleset wraps = (mul-mod_first, add-lack-mod, mod-add-mod, add-mod-mod)

-- two lists are the same if their first n words are, and the others: `grind` takes a few words at a time
pub in-parts : (n : ℕ) {xs ys : List ℕ} → take n xs ≡ take n ys → drop n xs ≡ drop n ys → xs ≡ ys
in-parts n {xs} {ys} e f = sym (take-append-drop n xs) ∙ (λ i. e i ++ f i) ∙ take-append-drop n ys
