-- Document 01, 'Symbol and value': a packed value. It is one number: its symbols, leftmost first, are the number's digits of 1, 2 or 4
-- bits, and its bytes are the number's digits of 8 bits. So the last symbol stands in the lowest bits of the last byte, and unused top
-- bits are zero.
-- Laws (proofs/PackedLaws): unpacking what was packed gives the symbols back; packing what was unpacked gives the bytes back exactly
-- where the unused top bits are zero.
-- Assumes nothing.
use Rattle.std.specs.Prelude.{ℕ, zero, suc, ◌+◌, ◌*◌, ◌/◌, ◌%◌, ◌^◌, Bool, List, [], ◌∷◌, length, ltb}
use Rattle.value.specs.Class.{bits_of}

-- the number whose digits, of b bits each, are given, highest first
unfoldable pub number_of : (b : ℕ) → List ℕ → ℕ
number_of b [] = 0
number_of b (x ∷ l) = x * 2 ^ (length l * b) + number_of b l

-- the digit of b bits at a place of a number, counted from the lowest
abbrev pub digit_at : (b place v : ℕ) → ℕ
digit_at b i v = v / 2 ^ (i * b) % 2 ^ b

-- the n lowest digits of a number, highest first
unfoldable pub digits : (b n v : ℕ) → List ℕ
digits b zero v = []
digits b (suc n) v = digit_at b n v ∷ digits b n v

-- how many symbols a byte holds
abbrev pub per_byte : (class : ℕ) → ℕ
per_byte zero = 8
per_byte (suc zero) = 4
per_byte (suc (suc c)) = 2

-- ceil(width × bits / 8)
abbrev pub packed_length : (width class : ℕ) → ℕ
packed_length w c = (w * bits_of c + 7) / 8

-- the bytes of symbols in a class
unfoldable pub packed : (class : ℕ) → List ℕ → List ℕ
packed c s = digits 8 (packed_length (length s) c) (number_of (bits_of c) s)

-- the symbols in bytes of a class; bits above them are ignored
unfoldable pub unpacked : (width class : ℕ) → List ℕ → List ℕ
unpacked w c b = digits (bits_of c) w (number_of 8 b)

-- whether the bits above the symbols are zero
abbrev pub top_clear : (width class : ℕ) → List ℕ → Bool
top_clear w c b = ltb (number_of 8 b) (2 ^ (w * bits_of c))
