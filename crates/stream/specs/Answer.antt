-- What the code answers of a change in a stream, and how long a change is.
-- Assumes nothing.
use Rattle.std.specs.Prelude.{ℕ, ◌+◌, ◌-◌, ◌*◌, ◌%◌, ◌/◌, ◌≡◌, List, length, drop, leb, Option, Some, None}
use Rattle.lists.specs.Choice.{pick}
use Rattle.lists.specs.Got.{Got, bad, got}
use Rattle.numbers.specs.Leb128.{leb_of}
use Rattle.value.specs.Class.{class_number}
use Rattle.value.specs.declared.states.States.{States}
use Rattle.packed.specs.Packed.{packed_length}
use Rattle.signal.specs.declared.kind.SignalEncoding.{SignalEncoding}
use Rattle.signal.specs.declared.decode.ChangeValue.{ChangeValue}
use Rattle.signal.specs.declared.decode.ChangeValue.TheVariants as value
use Rattle.signal.specs.Content.{Given, content_of, decode}
use Rattle.signal.specs.Answer.{value_of, decoded_to, decoded_as}
use Rattle.stream.specs.declared.read.ReadChange.{ReadChange}
use Rattle.stream.specs.Stream.{Change, change_bytes, max_delta, read_change}

-- the number that a change begins with, and how many bytes follow it
abbrev pub change_number : (d : ℕ) → ChangeValue → ℕ
change_number d value.Event = d
change_number d (value.SingleBit b) = d * 16 + b.0
change_number d (value.MultiBit c) = d * 4 + class_number c
change_number d (value.Real b) = d

abbrev pub tail_length : (width : ℕ) → ChangeValue → ℕ
tail_length w value.Event = 0
tail_length w (value.SingleBit b) = 0
tail_length w (value.MultiBit c) = packed_length w (class_number c)
tail_length w (value.Real b) = 8

-- the length of a change (proofs/LengthLaws: it is that of `change_bytes`)
abbrev pub change_length : (width d : ℕ) → ChangeValue → ℕ
change_length w d v = length (leb_of (change_number d v)) + tail_length w v

-- a change that was read: its d, its value and the place after it
abbrev pub read_of : (d : ℕ) → ChangeValue → (next : ℕ) → Option ReadChange
read_of d v n = Some (record { delta = d; value = v; next = n })

-- the answer of reading in a list of n bytes: the place after the change is n less the rest
abbrev pub read_as : SignalEncoding → (n : ℕ) → Got Change → Option ReadChange
read_as k n bad = None
read_as k n (got x r) = read_of x.d (value_of k x.content) (n - length r)

abbrev pub change_at : SignalEncoding → List ℕ → ℕ → Option ReadChange
change_at k s at = read_as k (length s) (read_change k (drop at s))

-- a change was read
abbrev pub IsChange : Option ReadChange → Type 0
IsChange r = r ≡ None → ⊥

-- an answer whose d is in range
abbrev pub answered : (d : ℕ) → ChangeValue → (next : ℕ) → Option ReadChange
answered d v n = pick (leb d max_delta) (read_of d v n) None

abbrev pub bit_answered : (v next : ℕ) → Option ReadChange
bit_answered v n = pick (leb (v % 16) 8) (answered (v / 16) (value.SingleBit (record { 0 = v % 16 })) n) None

-- what was given says a value: decoding answers it
abbrev pub Says : SignalEncoding → Given → ChangeValue → Type 0
Says k g v = (t : States) × (decoded_as k (decode k g) ≡ decoded_to v t)

-- the bytes of the change that was given
abbrev pub said_bytes : SignalEncoding → (d : ℕ) → Given → List ℕ
said_bytes k d g = change_bytes k d (content_of (decode k g))
