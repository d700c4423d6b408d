-- What the code answers of a content: all of it but a wider vector's symbols, which stay in the bytes where they were found.
-- Assumes nothing.
use Rattle.std.specs.Prelude.{ℕ, zero, suc, max, List, get_or, Option, Some, None, Result, Ok, Err}
use Rattle.refusal.specs.declared.Refusal.{Refusal}
use Rattle.refusal.specs.declared.Refusal.TheVariants.{BadValue}
use Rattle.refusal.specs.Named.{refusal_from}
use Rattle.value.specs.declared.states.States.{States}
use Rattle.value.specs.Class.{states_of, class_number, class_of, class_of_all}
use Rattle.value.specs.declared.change.BitVecChange.{BitVecChange}
use Rattle.value.specs.declared.change.BitVecChange.TheVariants as vector
use Rattle.signal.specs.declared.kind.SignalEncoding.{SignalEncoding}
use Rattle.signal.specs.declared.kind.SignalEncoding.TheVariants as kind
use Rattle.signal.specs.declared.decode.ChangeValue.{ChangeValue}
use Rattle.signal.specs.declared.decode.ChangeValue.TheVariants as value
use Rattle.signal.specs.declared.decode.DecodedChange.{DecodedChange}
use Rattle.signal.specs.Content.{Content, symbols_of, real_bits, Decoded, refuse, accept}

-- a vector's value by its width
abbrev pub vector_value : ℕ → List ℕ → ChangeValue
vector_value zero s = value.Event
vector_value (suc zero) s = value.SingleBit (record { 0 = get_or s 0 0 })
vector_value (suc (suc w)) s = value.MultiBit (states_of (class_of_all s))

-- a content to a kind
abbrev pub value_of : SignalEncoding → Content → ChangeValue
value_of (kind.BitVector w) c = vector_value w (symbols_of c)
value_of kind.Real c = value.Real (real_bits c)
value_of kind.Absent c = value.Event

-- what a change says, with a class
abbrev pub decoded_to : ChangeValue → States → Result DecodedChange Refusal
decoded_to v t = Ok (record { change = v; states = t })

-- the answer of decoding: a refusal by its number
abbrev pub decoded_as : SignalEncoding → Decoded → Result DecodedChange Refusal
decoded_as k (refuse n) = Err (refusal_from n)
decoded_as k (accept c t) = decoded_to (value_of k c) (states_of t)

-- the answer for a vector's value and the class that it claims
abbrev pub vector_answer : Option BitVecChange → (claim : ℕ) → Result DecodedChange Refusal
vector_answer (Some (vector.SingleBit b)) t = decoded_to (value.SingleBit b) (states_of (max (class_of b.0) t))
vector_answer (Some (vector.MultiBit c)) t = decoded_to (value.MultiBit c) (states_of (max (class_number c) t))
vector_answer None t = Err BadValue
