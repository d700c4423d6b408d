-- Document 01, 'Stream of one signal': one change as stream bytes, and back. d is the time index less that of the signal's previous
-- change in the block, or less 0; a block has at most 65,535 times, so d is at most 65,534.
-- Laws (proofs/StreamTrip): what is written is read back, and what is read was written so: shortest numbers, the value's own class, unused
-- top bits zero, symbols at most 8.
-- Assumes nothing.
use Rattle.std.specs.Prelude.{ℕ, zero, suc, ◌+◌, ◌*◌, ◌/◌, ◌%◌, ◌≤◌, Bool, ◌&&◌, List, [], ◌∷◌, ◌++◌, length, take, drop, get_or, leb, eqb, Some, None}
use Rattle.lists.specs.Choice.{pick}
use Rattle.lists.specs.Got.{Got, bad, got}
use Rattle.numbers.specs.Leb128.{Leb128, leb_of, read_leb}
use Rattle.numbers.specs.LittleEndian.{le, unle}
use Rattle.value.specs.Class.{class_of_all, all_symbols}
use Rattle.packed.specs.Packed.{packed, unpacked, packed_length, top_clear}
use Rattle.signal.specs.declared.kind.SignalEncoding.{SignalEncoding}
use Rattle.signal.specs.declared.kind.SignalEncoding.TheVariants.{BitVector, Real, Absent}
use Rattle.signal.specs.Content.{Content, happened, symbols, bits, symbols_of, real_bits, ContentFits}

-- event: d. Width 1: d × 16 + symbol. Wider: d × 4 + class, then the value packed in its own class
abbrev pub vector_bytes : (width d : ℕ) → List ℕ → List ℕ
vector_bytes zero d s = leb_of d
vector_bytes (suc zero) d s = leb_of (d * 16 + get_or s 0 0)
vector_bytes (suc (suc w)) d s = leb_of (d * 4 + class_of_all s) ++ packed (class_of_all s) s

-- real: d, then the eight bytes of the f64
unfoldable pub change_bytes : SignalEncoding → (d : ℕ) → Content → List ℕ
change_bytes (BitVector w) d c = vector_bytes w d (symbols_of c)
change_bytes Real d c = leb_of d ++ le 8 (real_bits c)
change_bytes Absent d c = []

-- a change in a stream
pub record Change : Type 0 where
  pub d : ℕ
  pub content : Content

abbrev pub change : ℕ → Content → Change
change d c = record { d = d; content = c }

abbrev pub max_delta : ℕ
max_delta = 65534

pub record ChangeFits (k : SignalEncoding) (x : Change) : Type 0 where
  pub small : x.d ≤ max_delta
  pub fits : ContentFits k x.content

-- a change with its d in range, before the bytes r
abbrev pub found : ℕ → Content → List ℕ → Got Change
found d c r = pick (leb d max_delta) (got (change d c) r) bad

-- after the number v stand the bytes r
abbrev pub bit_after : (v : ℕ) → List ℕ → Got Change
bit_after v r = pick (leb (v % 16) 8) (found (v / 16) (symbols (v % 16 ∷ [])) r) bad

-- bytes that are symbols packed in their own class
abbrev pub own_class : (width class : ℕ) → List ℕ → Bool
own_class w c b = top_clear w c b && (all_symbols (unpacked w c b) && eqb (class_of_all (unpacked w c b)) c)

-- class bits 3 are refused, since no value is of that class
abbrev pub wide_after : (width v : ℕ) → List ℕ → Got Change
wide_after w v r =
    let n = packed_length w (v % 4) in
    pick (leb n (length r) && own_class w (v % 4) (take n r))
    (found (v / 4) (symbols (unpacked w (v % 4) (take n r))) (drop n r)) bad

abbrev pub vector_after : (width v : ℕ) → List ℕ → Got Change
vector_after zero v r = found v happened r
vector_after (suc zero) v r = bit_after v r
vector_after (suc (suc w)) v r = wide_after (suc (suc w)) v r

unfoldable pub value_after : SignalEncoding → (v : ℕ) → List ℕ → Got Change
value_after (BitVector w) v r = vector_after w v r
value_after Real v r = pick (leb 8 (length r)) (found v (bits (unle (take 8 r))) (drop 8 r)) bad
value_after Absent v r = bad

abbrev pub after_number : SignalEncoding → List ℕ → Leb128 → Got Change
after_number k s (Some (v, n)) = value_after k v (drop n s)
after_number k s None = bad

-- the change at the front of a stream
unfoldable pub read_change : SignalEncoding → List ℕ → Got Change
read_change k s = after_number k s (read_leb 5 0 s)
