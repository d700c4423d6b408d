-- Numbers and bytes that stand in text.
-- Assumes nothing.
use Rattle.std.specs.Prelude.{ℕ, ◌+◌, ◌*◌, ◌-◌, Bool, ◌&&◌, List, [], ◌∷◌, length, ltb, leb, eqb, Option, Some, None, option_and_then}
use Rattle.lists.specs.Choice.{pick}

-- what k makes of a value, where there is one
abbrev pub bind : {A B : Type 0} → Option A → (A → Option B) → Option B
bind o k = option_and_then k o

abbrev pub between : (low high b : ℕ) → Bool
between l h b = leb l b && leb b h

-- the number of a digit, of either case: `0` to `9`, `a` to `f`, `A` to `F`; 16 for any other byte
unfoldable pub digit_of : ℕ → ℕ
digit_of b = pick (between 48 57 b) (b - 48) (pick (between 97 102 b) (b - 87) (pick (between 65 70 b) (b - 55) 16))

-- the number of the digits of a base, the highest first, behind digits whose number is v; none where a byte is no such digit
unfoldable pub digits_from : (base v : ℕ) → List ℕ → Option ℕ
digits_from base v [] = Some v
digits_from base v (b ∷ l) = pick (ltb (digit_of b) base) (digits_from base (v * base + digit_of b) l) None

-- one or more decimal digits, leading zeros allowed
unfoldable pub number_of : List ℕ → Option ℕ
number_of [] = None
number_of (b ∷ l) = digits_from 10 0 (b ∷ l)

-- a number that is at most so large
abbrev pub at_most : (most : ℕ) → ℕ → Option ℕ
at_most most n = pick (leb n most) (Some n) None

unfoldable pub number_to : (most : ℕ) → List ℕ → Option ℕ
number_to most l = bind (number_of l) (at_most most)

-- HEX: the bytes of pairs of digits, of either case
unfoldable pub hex_bytes : List ℕ → Option (List ℕ)
hex_bytes [] = Some []
hex_bytes (a ∷ []) = None
hex_bytes (a ∷ b ∷ l) =
    pick (ltb (digit_of a) 16 && ltb (digit_of b) 16)
    (bind (hex_bytes l) (λ s. Some ((digit_of a * 16 + digit_of b) ∷ s)))
    None

-- HEX16: the number of exactly 16 digits, the highest first
unfoldable pub bits_of : List ℕ → Option ℕ
bits_of l = pick (eqb (length l) 16) (digits_from 16 0 l) None
