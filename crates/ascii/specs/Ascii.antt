-- Text as bytes: ASCII codes, decimal and hexadecimal numbers.
-- Assumes nothing.
use Rattle.std.specs.Prelude.{ℕ, zero, suc, ◌+◌, ◌/◌, ◌%◌, List, [], ◌∷◌, ◌++◌, ltb}
use Prim.Native.String.{String, len, char_at}
use Prim.Native.Char.{code}
use Rattle.lists.specs.Choice.{pick}

abbrev pub codes_from : (n i : ℕ) → String → List ℕ
codes_from zero i s = []
codes_from (suc n) i s = code (char_at s i) ∷ codes_from n (suc i) s

-- the codes of a text's letters
abbrev pub ascii : String → List ℕ
ascii s = codes_from (len s) 0 s

-- a digit below 16: `0` to `9`, then `a` to `f`
abbrev pub digit_code : ℕ → ℕ
digit_code d = pick (ltb d 10) (48 + d) (87 + d)

-- at most so many decimal digits, the highest first, no zero in front of another digit
unfoldable pub decimal_in : (places n : ℕ) → List ℕ
decimal_in zero n = []
decimal_in (suc k) n = pick (ltb n 10) [] (decimal_in k (n / 10)) ++ digit_code (n % 10) ∷ []

-- a number of 64 bits has at most 20; of a larger one the last 20 are shown
abbrev pub decimal : ℕ → List ℕ
decimal n = decimal_in 20 n

-- so many hexadecimal digits, the highest first
unfoldable pub hexadecimal : (places n : ℕ) → List ℕ
hexadecimal zero n = []
hexadecimal (suc k) n = hexadecimal k (n / 16) ++ digit_code (n % 16) ∷ []
