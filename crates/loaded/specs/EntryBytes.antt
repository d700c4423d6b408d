-- Document 01, 'Loaded signal': one entry as bytes, in a signal of class C, and back.
-- Laws (proofs/EntryLaws): what is written is read back.
-- Assumes nothing.
use Rattle.std.specs.Prelude.{ℕ, zero, suc, ◌+◌, ◌-◌, ◌*◌, ◌/◌, ◌%◌, ◌&&◌, List, [], ◌∷◌, ◌++◌, length, get_or, replicate, ltb, eqb}
use Rattle.lists.specs.Choice.{pick}
use Rattle.numbers.specs.LittleEndian.{le, unle}
use Rattle.value.specs.Class.{bits_of, class_of_all}
use Rattle.packed.specs.Packed.{packed_length, packed, unpacked}
use Rattle.packed.specs.Raw.{last_of}
use Rattle.signal.specs.declared.kind.SignalEncoding.{SignalEncoding}
use Rattle.signal.specs.declared.kind.SignalEncoding.TheVariants.{BitVector, Real, Absent}
use Rattle.signal.specs.Content.{Content, happened, symbols, bits, symbols_of, real_bits}
use Rattle.stream.specs.Entries.{Entry}

-- the first byte also carries m
abbrev pub carrying : (m : ℕ) → List ℕ → List ℕ
carrying m [] = []
carrying m (b ∷ s) = (m + b) ∷ s

-- n bytes: a lower class is zero-filled between class and packed bytes
abbrev pub filled_to : (n : ℕ) → List ℕ → List ℕ
filled_to n b = replicate (n - length b) 0 ++ b

-- if C is not Two and width is a multiple of 8/bits(C), a class byte (class × 64) precedes n bytes; else n bytes whose first also carries
-- class × 64
abbrev pub wide_entry : (width C : ℕ) → List ℕ → List ℕ
wide_entry w c s =
    let class = class_of_all s in
    let b = filled_to (packed_length w c) (packed class s) in
    pick (ltb 0 c && eqb (w % (8 / bits_of c)) 0) (class * 64 ∷ b) (carrying (class * 64) b)

-- event: none. Width 1: class × 64 + symbol
abbrev pub vector_entry : (width C : ℕ) → List ℕ → List ℕ
vector_entry zero c s = []
vector_entry (suc zero) c s = (class_of_all s * 64 + get_or s 0 0) ∷ []
vector_entry (suc (suc w)) c s = wide_entry (suc (suc w)) c s

-- real: 8 bytes
unfoldable pub entry_bytes : SignalEncoding → (C : ℕ) → Content → List ℕ
entry_bytes (BitVector w) c a = vector_entry w c (symbols_of a)
entry_bytes Real c a = le 8 (real_bits a)
entry_bytes Absent c a = []

unfoldable pub entries_bytes : SignalEncoding → (C : ℕ) → List Entry → List ℕ
entries_bytes k c [] = []
entries_bytes k c (e ∷ es) = entry_bytes k c e.content ++ entries_bytes k c es

-- ---- and back

-- the entry's own class stands in the top two bits of its first byte, unless C is Two
abbrev pub own_class_in : (C : ℕ) → List ℕ → ℕ
own_class_in zero b = 0
own_class_in (suc c) b = get_or b 0 0 / 64

-- the packed bytes are the last ones; bits above the symbols are ignored
abbrev pub wide_content : (width class : ℕ) → List ℕ → Content
wide_content w t b = symbols (unpacked w t (last_of (packed_length w t) b))

abbrev pub vector_content : (width C : ℕ) → List ℕ → Content
vector_content zero c b = happened
vector_content (suc zero) c b = symbols (get_or b 0 0 % 64 ∷ [])
vector_content (suc (suc w)) c b = wide_content (suc (suc w)) (own_class_in c b) b

-- one entry: an event, symbols, or a real's 64 bits
unfoldable pub entry_of : SignalEncoding → (C : ℕ) → List ℕ → Content
entry_of (BitVector w) c b = vector_content w c b
entry_of Real c b = bits (unle b)
entry_of Absent c b = happened
