-- The lines that the program writes, as lists of bytes.
use Rattle.std.specs.Prelude.{cond, List, [], ◌∷◌, ◌++◌, ℕ, zero, suc, ◌+◌, ◌/◌, ◌%◌, leb, ltb, length}
use Prim.Native.Char.{code}
use Prim.Native.String.{String}

-- the bytes of a text whose characters are all ASCII
abbrev pub ascii : String → List ℕ
ascii String.[] = []
ascii (String.◌∷◌ c s) = code c ∷ ascii s

-- the byte between two numbers
abbrev pub space : ℕ
space = 32

-- the byte that ends a line
abbrev pub newline : ℕ
newline = 10

-- the last decimal digit of n
abbrev pub digit : ℕ → ℕ
digit n = 48 + n % 10

-- the decimal digits of n: those of n / 10, where that is not 0, and the last one. The depth bounds the number of divisions
unfoldable pub decimal_within : (depth n : ℕ) → List ℕ
decimal_within zero n = digit n ∷ []
decimal_within (suc d) n =
    let longer = decimal_within d (n / 10) ++ (digit n ∷ []) in
    cond (ltb n 10) (digit n ∷ []) longer

-- no number can be divided more often than it says
unfoldable pub decimal : ℕ → List ℕ
unfolding decimal_within
decimal n = decimal_within n n

-- each number after one space
unfoldable pub spaced : List ℕ → List ℕ
spaced [] = []
spaced (n ∷ ns) = space ∷ decimal n ++ spaced ns

-- the numbers, one space between
unfoldable pub joined : List ℕ → List ℕ
unfolding spaced
joined [] = []
joined (n ∷ ns) = decimal n ++ spaced ns

-- a line: its head, its numbers and one newline
unfoldable pub line : (head numbers : List ℕ) → List ℕ
line head ns = head ++ joined ns ++ (newline ∷ [])

-- the five values of a digest
unfoldable pub digest_line : (values : List ℕ) → List ℕ
digest_line values = line (ascii "digest ") values

-- the squeezes of a draw, and its indices
unfoldable pub draw_line : (squeezes : ℕ) (indices : List ℕ) → List ℕ
draw_line squeezes indices = line (ascii "draw ") (squeezes ∷ indices)

-- the most indices that a line may have
abbrev pub index_limit : ℕ
index_limit = 4095

-- the line of a draw, and no byte for one of more indices than that
unfoldable pub bounded_draw_line : (squeezes : ℕ) (indices : List ℕ) → List ℕ
bounded_draw_line squeezes indices = cond (leb (length indices) index_limit) (draw_line squeezes indices) []

-- a refusal's number
unfoldable pub refused_line : (refusal : ℕ) → List ℕ
refused_line n = line (ascii "refused ") (n ∷ [])
