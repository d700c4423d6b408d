-- The symbols of a vector in a class, as one number: its digits of 8 bits are the packed bytes, so that a byte is made of the symbols that
-- lie in it alone.
-- Assumes nothing.
use Rattle.std.specs.Prelude.{ℕ, ◌*◌, ◌/◌, ◌%◌, ◌^◌, ◌≤◌, ◌≡◌, Bool, true, false, List, eqb, length}
use Rattle.value.specs.Class.{class_number, bits_of, class_of_all, all_symbols}
use Rattle.packed.specs.Packed.{number_of}
use Rattle.packer.specs.Notation.{symbols_from, Readable}
use Rattle.packer.specs.declared.Notation.{Notation}
use Rattle.packer.specs.declared.Notation.TheVariants.{Ascii, Packed}

-- the number of the symbols that bytes stand for
abbrev pub number_in : (class : ℕ) → Notation → (width : ℕ) → List ℕ → ℕ
number_in c n w b = number_of (bits_of c) (symbols_from n w b)

-- the n symbols, of b bits each, of a number that i symbols follow
abbrev pub symbols_at : (b i n v : ℕ) → ℕ
symbols_at b i n v = v / 2 ^ (i * b) % 2 ^ (n * b)

-- each place has a symbol, and the class holds them all
abbrev pub Held : Notation → (width class : ℕ) → List ℕ → Type 0
Held n w c b = Readable n w b × (all_symbols (symbols_from n w b) ≡ true) × (class_of_all (symbols_from n w b) ≤ c)

-- how many symbols, counted from the right, stand in the bytes themselves
abbrev pub standing_in : Notation → (width : ℕ) → List ℕ → ℕ
standing_in Ascii w b = length b
standing_in (Packed c) w b = w

-- whether the bytes are those of the class already
abbrev pub in_class : Notation → (class : ℕ) → Bool
in_class Ascii c = false
in_class (Packed k) c = eqb (class_number k) c
