-- Where a change stands, every test on the way to it holds: what is answered without the tests is the change.
-- Assumes nothing.
use Prim.Native.Nat.{ℕ, ◌+◌, ◌-◌, ◌/◌, ◌%◌, ◌≤◌, ◌<◌}
use mathlib.Core.Path.{◌≡◌, refl, sym, ◌∙◌}
use mathlib.Core.Bool.{Bool, true, false}
use mathlib.Core.List.{List}
use native.Mathlib.Omega.{arith}
use native.Mathlib.Decide.{dec_lt}
use lib.ListN.{length, take, drop}
use Rattle.numbers.specs.LittleEndian.{unle}
use Rattle.value.specs.Class.{states_of}
use Rattle.value.proofs.ClassLaws.{number-states}
use Rattle.packed.specs.Packed.{packed_length}
use Rattle.signal.specs.declared.kind.SignalEncoding.{SignalEncoding}
use Rattle.signal.specs.declared.kind.SignalEncoding.TheVariants.{BitVector, Real}
use Rattle.signal.specs.declared.decode.ChangeValue.{ChangeValue}
use Rattle.signal.specs.declared.decode.ChangeValue.TheVariants as value
use Rattle.stream.specs.Stream.{own_class, wide_after, value_after}
use Rattle.stream.specs.Answer.{read_of, read_as, answered, bit_answered, IsChange}
use Rattle.stream.proofs.ReadLaws.{range-over, range-in, bit-over, bit_in, wide-three, wide_short, wide-other, wide-own, real-short, real-long, kind-event, kind-bit, kind-wide, kind-real}

pub known_in : (d : ℕ) (v : ChangeValue) (n : ℕ) → IsChange (answered d v n) → read_of d v n ≡ answered d v n
known_in d v n k = by (dec_lt 65534 d)
  where
    by : Dec (65534 < d) → read_of d v n ≡ answered d v n
    by (yes l) = absurd (k (sym (range-over d v n l)))
    by (no g) = range-in d v n (omega arith)

pub known-bit : (v n : ℕ) → IsChange (bit_answered v n) → read_of (v / 16) (value.SingleBit (record { 0 = v % 16 })) n ≡ bit_answered v n
known-bit v n k = by (dec_lt 8 (v % 16))
  where
    by : Dec (8 < v % 16) → read_of (v / 16) (value.SingleBit (record { 0 = v % 16 })) n ≡ bit_answered v n
    by (yes l) = absurd (k (sym (bit-over v n l)))
    by (no g) =
        let e = bit_in v n (omega arith) in
        known_in (v / 16) (value.SingleBit (record { 0 = v % 16 })) n (λ b. k (sym e ∙ b)) ∙ e

-- a wider vector's: its class, its room, the change
pub record Wide (s : List ℕ) (at v w : ℕ) : Type 0 where
  pub class : v % 4 ≡ 3 → ⊥
  pub room : packed_length w (v % 4) ≤ length s - at
  pub change : read_of (v / 4) (value.MultiBit (states_of (v % 4))) (at + packed_length w (v % 4)) ≡ read_as (BitVector w) (length s) (wide_after w v (drop at s))

pub known-wide : (s : List ℕ) (at v w : ℕ) → at ≤ length s → 1 < w → IsChange (read_as (BitVector w) (length s) (wide_after w v (drop at s))) → Wide s at v w
known-wide s at v w i h k = record { class = class; room = room; change = known_in (v / 4) (value.MultiBit (states_of (v % 4))) (at + n) (λ b. k (sym own ∙ b)) ∙ own }
  where
    n : ℕ
    n = packed_length w (v % 4)

    class : v % 4 ≡ 3 → ⊥
    class e = k (sym (wide-three s at v w i e))

    by-room : Dec (length s - at < n) → n ≤ length s - at
    by-room (yes l) = absurd (k (sym (wide_short s at v w i n refl l)))
    by-room (no g) = omega arith

    room : n ≤ length s - at
    room = by-room (dec_lt (length s - at) n)

    by-own : (t : Bool) → t ≡ own_class w (v % 4) (take n (drop at s)) → answered (v / 4) (value.MultiBit (states_of (v % 4))) (at + n) ≡ read_as (BitVector w) (length s) (wide_after w v (drop at s))
    by-own true e = wide-own s at v w i n true (states_of (v % 4)) refl e refl room h (number-states (v % 4) (omega (arith, class))) refl
    by-own false e = absurd (k (sym (wide-other s at v w i n false refl e refl)))

    own : answered (v / 4) (value.MultiBit (states_of (v % 4))) (at + n) ≡ read_as (BitVector w) (length s) (wide_after w v (drop at s))
    own = by-own (own_class w (v % 4) (take n (drop at s))) refl

pub known-real : (s : List ℕ) (at v : ℕ) → at ≤ length s → IsChange (read_as Real (length s) (value_after Real v (drop at s)))
    → (8 ≤ length s - at) × (read_of v (value.Real (unle (take 8 (drop at s)))) (at + 8) ≡ read_as Real (length s) (value_after Real v (drop at s)))
known-real s at v i k = by (dec_lt (length s - at) 8)
  where
    by : Dec (length s - at < 8) → (8 ≤ length s - at) × (read_of v (value.Real (unle (take 8 (drop at s)))) (at + 8) ≡ read_as Real (length s) (value_after Real v (drop at s)))
    by (yes l) = absurd (k (sym (real-short s at v l)))
    by (no g) =
        let e = real-long s at v i (omega arith) in
        (omega arith, known_in v (value.Real (unle (take 8 (drop at s)))) (at + 8) (λ b. k (sym e ∙ b)) ∙ e)

-- by the kind, as the code knows it
module _ (k : SignalEncoding) (s : List ℕ) (at v : ℕ) (inside : at ≤ length s) (h : IsChange (read_as k (length s) (value_after k v (drop at s)))) where
  pub event-stands : (w : ℕ) → k ≡ BitVector w → w ≡ 0 → read_of v value.Event at ≡ read_as k (length s) (value_after k v (drop at s))
  event-stands w e z =
      let q = kind-event k s at v inside w e z in
      known_in v value.Event at (λ b. h (sym q ∙ b)) ∙ q

  pub bit-stands : (w : ℕ) → k ≡ BitVector w → w ≡ 1 → read_of (v / 16) (value.SingleBit (record { 0 = v % 16 })) at ≡ read_as k (length s) (value_after k v (drop at s))
  bit-stands w e z =
      let q = kind-bit k s at v inside w e z in
      known-bit v at (λ b. h (sym q ∙ b)) ∙ q

  pub wide-stands : (w : ℕ) → k ≡ BitVector w → (w ≡ 0 → ⊥) → (w ≡ 1 → ⊥)
      → Wide s at v w × (read_as (BitVector w) (length s) (wide_after w v (drop at s)) ≡ read_as k (length s) (value_after k v (drop at s)))
  wide-stands w e a b =
      let q = kind-wide k s at v inside w e a b in
      (known-wide s at v w inside (omega (arith, a, b)) (λ z. h (sym q ∙ z)), q)

  pub real-stands : k ≡ Real → (8 ≤ length s - at) × (read_of v (value.Real (unle (take 8 (drop at s)))) (at + 8) ≡ read_as k (length s) (value_after k v (drop at s)))
  real-stands e =
      let q = kind-real k s at v inside e in
      let r = known-real s at v inside (λ z. h (sym q ∙ z)) in
      (r.0, r.1 ∙ q)
