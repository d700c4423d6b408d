-- Document 01, 'Loaded signal': how long an entry is, by the signal's kind and class.
-- Law (proofs/LengthLaws): so long are the entry bytes of every content that fits.
-- Assumes nothing.
use Rattle.std.specs.Prelude.{ℕ, zero, suc, ◌+◌, ◌/◌, ◌%◌, Bool, ◌&&◌, ltb, eqb}
use Rattle.lists.specs.Choice.{pick}
use Rattle.value.specs.Class.{bits_of}
use Rattle.packed.specs.Packed.{packed_length}
use Rattle.signal.specs.declared.kind.SignalEncoding.{SignalEncoding}
use Rattle.signal.specs.declared.kind.SignalEncoding.TheVariants.{BitVector, Real, Absent}

-- C is not Two and width is a multiple of 8/bits(C): a class byte precedes the packed bytes
abbrev pub class_byte : (width C : ℕ) → Bool
class_byte w c = ltb 0 c && eqb (w % (8 / bits_of c)) 0

abbrev pub wide_length : (width C : ℕ) → ℕ
wide_length w c = pick (class_byte w c) 1 0 + packed_length w c

abbrev pub vector_length : (width C : ℕ) → ℕ
vector_length zero c = 0
vector_length (suc zero) c = 1
vector_length (suc (suc w)) c = wide_length (suc (suc w)) c

unfoldable pub entry_length : SignalEncoding → (C : ℕ) → ℕ
entry_length (BitVector w) c = vector_length w c
entry_length Real c = 8
entry_length Absent c = 0
