-- Decoding's answers, one law for each way through the code.
-- Assumes nothing.
use Prim.Native.Nat.{ℕ, zero, suc, ◌≤◌, ◌<◌, max}
use mathlib.Core.Path.{◌≡◌, refl}
use mathlib.Core.List.{List}
use native.Mathlib.Omega.{arith}
use native.Mathlib.Decide.{dec_lt}
use borrow.Author.Tests.{le-leb, lt-leb}
use lib.ListN.{length}
use Rattle.value.specs.Class.{states_of, class_number, class_of}
use Rattle.value.specs.Change.{change_of}
use Rattle.value.specs.declared.states.States.{States}
use Rattle.value.specs.declared.states.States.TheVariants.{Two}
use Rattle.value.specs.declared.symbol.Bit.{Bit}
use Rattle.value.specs.declared.change.BitVecChange.{BitVecChange}
use Rattle.value.specs.declared.change.BitVecChange.TheVariants as vector
use Rattle.value.proofs.ClassLaws.{number-states, class-small}
use Rattle.vcd.specs.Vcd.{vcd_symbols}
use Rattle.packed.specs.Raw.{raw_symbols}
use Rattle.packed.proofs.RawLaws.{raw-claim}
use Rattle.signal.specs.declared.kind.SignalEncoding.{SignalEncoding}
use Rattle.signal.specs.declared.kind.SignalEncoding.TheVariants.{BitVector, Real, Absent}
use Rattle.signal.specs.declared.decode.ChangeValue.TheVariants as value
use Rattle.std.specs.Prelude.{Option, Some, None, Err}
use Rattle.refusal.specs.declared.Refusal.TheVariants.{NoSignal, WrongKind, BadValue}
use Rattle.signal.specs.Content.{vcd, raw, real, vector_says, event_says, decode}
use Rattle.signal.specs.Answer.{decoded_to, decoded_as, vector_answer}
use Rattle.signal.proofs.DecodeLaws.{vector-answer, vcd-wide, raw-wide}

pub event-good : (v : List ℕ) → length v ≤ 1 → decoded_to value.Event Two ≡ decoded_as (BitVector 0) (event_says v)
event-good v h = rw (le-leb (length v) 1 h) refl

pub event-bad : (v : List ℕ) → 1 < length v → Err BadValue ≡ decoded_as (BitVector 0) (event_says v)
event-bad v h = rw (lt-leb (length v) 1 h) refl

pub bit-answer : (x : Option BitVecChange) (b : Bit) (f r : States) (t : ℕ) → f ≡ states_of (class_of b.0) → r ≡ states_of (max (class_number f) t) → x ≡ Some (vector.SingleBit b)
    → decoded_to (value.SingleBit b) r ≡ vector_answer x t
bit-answer x b f r t p q e = rw (q, p, number-states (class_of b.0) (class-small b.0), e) refl

pub bits-answer : (x : Option BitVecChange) (c r : States) (t : ℕ) → r ≡ states_of (max (class_number c) t) → x ≡ Some (vector.MultiBit c)
    → decoded_to (value.MultiBit c) r ≡ vector_answer x t
bits-answer x c r t q e = rw (q, e) refl

-- a kind and what was given, refused by the kind alone
pub vcd-real : (k : SignalEncoding) (v : List ℕ) → k ≡ Real → Err WrongKind ≡ decoded_as k (decode k (vcd v))
unfolding decode
vcd-real k v e = rw e refl

pub vcd-absent : (k : SignalEncoding) (v : List ℕ) → k ≡ Absent → Err NoSignal ≡ decoded_as k (decode k (vcd v))
unfolding decode
vcd-absent k v e = rw e refl

pub vcd-event : (k : SignalEncoding) (w : ℕ) (v : List ℕ) → k ≡ BitVector w → w ≡ 0 → decoded_as (BitVector 0) (event_says v) ≡ decoded_as k (decode k (vcd v))
unfolding decode
vcd-event k w v e z = rw (e, z) refl

pub vcd-vector : (k : SignalEncoding) (w : ℕ) (v : List ℕ) → k ≡ BitVector w → (w ≡ 0 → ⊥) → vector_answer (change_of w (vcd_symbols w v)) 0 ≡ decoded_as k (decode k (vcd v))
unfolding decode
vcd-vector k zero v e z = absurd (z refl)
vcd-vector k (suc w) v e z = rw e (vector-answer w (vcd_symbols (suc w) v) 0 (vcd-wide w v))

pub raw-real : (k : SignalEncoding) (c : ℕ) (v : List ℕ) → k ≡ Real → Err WrongKind ≡ decoded_as k (decode k (raw c v))
unfolding decode
raw-real k c v e = rw e refl

pub raw-absent : (k : SignalEncoding) (c : ℕ) (v : List ℕ) → k ≡ Absent → Err NoSignal ≡ decoded_as k (decode k (raw c v))
unfolding decode
raw-absent k c v e = rw e refl

pub raw-event : (k : SignalEncoding) (w c : ℕ) (v : List ℕ) → k ≡ BitVector w → w ≡ 0 → Err WrongKind ≡ decoded_as k (decode k (raw c v))
unfolding decode
raw-event k w c v e z = rw (e, z) refl

-- a claim over 2 is bad, whichever class it is taken for
pub raw-vector : (k : SignalEncoding) (w c : ℕ) (v : List ℕ) (s : States) → k ≡ BitVector w → (w ≡ 0 → ⊥) → s ≡ states_of c
    → vector_answer (change_of w (raw_symbols w c v)) (class_number s) ≡ decoded_as k (decode k (raw c v))
unfolding decode
raw-vector k zero c v s e z q = absurd (z refl)
raw-vector k (suc w) c v s e z q = rw e (by (dec_lt 2 c))
  where
    by : Dec (2 < c) → vector_answer (change_of (suc w) (raw_symbols (suc w) c v)) (class_number s) ≡ decoded_as (BitVector (suc w)) (vector_says (raw_symbols (suc w) c v) c)
    by (yes h) = rw (raw-claim (suc w) c v h) refl
    by (no h) = rw (q, number-states c (omega arith)) (vector-answer w (raw_symbols (suc w) c v) c (raw-wide w c v))

pub real-vector : (k : SignalEncoding) (w b : ℕ) → k ≡ BitVector w → Err WrongKind ≡ decoded_as k (decode k (real b))
unfolding decode
real-vector k zero b e = rw e refl
real-vector k (suc w) b e = rw e refl

pub real-real : (k : SignalEncoding) (b : ℕ) → k ≡ Real → decoded_to (value.Real b) Two ≡ decoded_as k (decode k (real b))
unfolding decode
real-real k b e = rw e refl

pub real-absent : (k : SignalEncoding) (b : ℕ) → k ≡ Absent → Err NoSignal ≡ decoded_as k (decode k (real b))
unfolding decode
real-absent k b e = rw e refl
