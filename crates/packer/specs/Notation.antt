-- The symbols of a wider vector in the bytes that a caller gave: VCD text without its prefix, or packed in a class.
-- Assumes nothing.
use Rattle.std.specs.Prelude.{ℕ, ◌≤◌, ◌≡◌, true, List, length}
use Rattle.lists.specs.Choice.{is_some, or_empty}
use Rattle.value.specs.Class.{class_number}
use Rattle.vcd.specs.Vcd.{text_symbols}
use Rattle.packed.specs.Packed.{packed_length, unpacked}
use Rattle.packer.specs.declared.Notation.{Notation}
use Rattle.packer.specs.declared.Notation.TheVariants.{Ascii, Packed}

-- the symbols that bytes stand for
abbrev pub symbols_from : Notation → (width : ℕ) → List ℕ → List ℕ
symbols_from Ascii w b = or_empty (text_symbols w b)
symbols_from (Packed c) w b = unpacked w (class_number c) b

-- what the bytes must be, so that each place has a symbol
abbrev pub Readable : Notation → (width : ℕ) → List ℕ → Type 0
Readable Ascii w b = is_some (text_symbols w b) ≡ true
Readable (Packed c) w b = packed_length w (class_number c) ≤ length b
