-- The content of a change that was read in a stream: what reading answered says all of it but a wider vector's symbols, whose packed bytes
-- end where the change does.
-- Law (proofs/ReadThere): it is the content that `read_change` finds.
-- Assumes nothing.
use Rattle.std.specs.Prelude.{ℕ, zero, suc, ◌-◌, ◌≤◌, ◌≡◌, true, List, [], ◌∷◌, length, take, drop}
use Rattle.value.specs.Class.{class_number, class_of_all, all_symbols}
use Rattle.value.specs.declared.states.States.{States}
use Rattle.value.specs.declared.states.States.TheVariants.{Two}
use Rattle.packed.specs.Packed.{packed_length, packed, unpacked}
use Rattle.signal.specs.declared.kind.SignalEncoding.{SignalEncoding}
use Rattle.signal.specs.declared.kind.SignalEncoding.TheVariants.{BitVector, Real, Absent}
use Rattle.signal.specs.declared.decode.ChangeValue.{ChangeValue}
use Rattle.signal.specs.declared.decode.ChangeValue.TheVariants as value
use Rattle.signal.specs.Content.{Content, happened, symbols, bits}
use Rattle.stream.specs.Answer.{change_at, read_of}

-- the parts of a value; 0 and Two where it has no such part
abbrev pub bit_in : ChangeValue → ℕ
bit_in value.Event = 0
bit_in (value.SingleBit b) = b.0
bit_in (value.MultiBit c) = 0
bit_in (value.Real b) = 0

abbrev pub states_in : ChangeValue → States
states_in value.Event = Two
states_in (value.SingleBit b) = Two
states_in (value.MultiBit c) = c
states_in (value.Real b) = Two

abbrev pub bits_in : ChangeValue → ℕ
bits_in value.Event = 0
bits_in (value.SingleBit b) = 0
bits_in (value.MultiBit c) = 0
bits_in (value.Real b) = b

-- the bytes of a packed value that end at a place
abbrev pub packed_before : (width class next : ℕ) → List ℕ → List ℕ
packed_before w c n s = take (packed_length w c) (drop (n - packed_length w c) s)

abbrev pub wide_read : (width class next : ℕ) → List ℕ → List ℕ
wide_read w c n s = unpacked w c (packed_before w c n s)

abbrev pub vector_read : (width : ℕ) → List ℕ → ChangeValue → (next : ℕ) → Content
vector_read zero s v n = happened
vector_read (suc zero) s v n = symbols (bit_in v ∷ [])
vector_read (suc (suc w)) s v n = symbols (wide_read (suc (suc w)) (class_number (states_in v)) n s)

-- the content of the change that ends at a place
unfoldable pub content_read : SignalEncoding → List ℕ → ChangeValue → (next : ℕ) → Content
content_read (BitVector w) s v n = vector_read w s v n
content_read Real s v n = bits (bits_in v)
content_read Absent s v n = happened

-- at some place of the stream reading answers this value, and this place after the change
abbrev pub Reads : SignalEncoding → List ℕ → ChangeValue → (next : ℕ) → Type 0
Reads k s v n = (p : ℕ) × (d : ℕ) × (change_at k s p ≡ read_of d v n)

-- symbols packed in their own class stand before a place
pub record PackedThere (w c n : ℕ) (s : List ℕ) : Type 0 where
  pub inside : packed_length w c ≤ n
  pub within : n ≤ length s
  pub all : all_symbols (wide_read w c n s) ≡ true
  pub class : class_of_all (wide_read w c n s) ≡ c
  pub back : packed c (wide_read w c n s) ≡ packed_before w c n s
