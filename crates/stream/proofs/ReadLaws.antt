-- Reading by the tests that the code makes, one law for each way through it; places are counted in the whole list.
-- Assumes nothing.
use Prim.Native.Nat.{ℕ, zero, suc, ◌+◌, ◌-◌, ◌/◌, ◌%◌, ◌≤◌, ◌<◌}
use mathlib.Core.Path.{◌≡◌, refl, sym, ap, ap₂, ◌∙◌}
use mathlib.Core.Bool.{Bool, true, false, ◌&&◌}
use mathlib.Core.List.{List, [], ◌∷◌}
use native.Mathlib.Omega.{arith}
use borrow.Author.Tests.{le-leb, lt-leb, ne_eqb, eqb-true}
use lib.Dec.{leb, eqb}
use lib.ListN.{length, take, drop, length-drop}
use lib.Seq.{drop-drop}
use Rattle.lists.specs.Choice.{pick}
use Rattle.lists.specs.Got.{Got, bad, got}
use Rattle.lists.specs.Bytes.{Bytes}
use Rattle.lists.proofs.BytesLaws.{drop-bytes}
use Rattle.lists.proofs.ChoiceLaws.{both_hold}
use Rattle.numbers.specs.Leb128.{Leb128, leb_of, read_leb, leb_at}
use Rattle.numbers.specs.LittleEndian.{unle}
use Rattle.numbers.proofs.Leb128Trip.{read_is, get-put, put-get}
use Rattle.value.specs.Class.{class_number, states_of, class_of_all, all_symbols, largest_class}
use Rattle.value.specs.declared.states.States.{States}
use Rattle.value.proofs.ClassLaws.{number-states, class-all-small, own-found}
use Rattle.packed.specs.Packed.{number_of, unpacked, packed_length, top_clear}
use Rattle.packed.proofs.PackedLaws.{bits-class}
use Rattle.signal.specs.declared.kind.SignalEncoding.{SignalEncoding}
use Rattle.signal.specs.declared.kind.SignalEncoding.TheVariants.{BitVector, Real, Absent}
use Rattle.signal.specs.declared.decode.ChangeValue.{ChangeValue}
use Rattle.signal.specs.declared.decode.ChangeValue.TheVariants as value
use Rattle.signal.specs.Content.{Content, happened, symbols, bits}
use Rattle.signal.specs.Answer.{value_of}
use Rattle.std.specs.Prelude.{Some, None}
use Rattle.stream.specs.Stream.{Change, change, max_delta, found, own_class, wide_after, value_after, read_change, after_number}
use Rattle.stream.specs.Answer.{read_of, read_as, change_at, answered, bit_answered}
use Rattle.stream.proofs.StreamTrip.{number-there}

-- d in range
pub range-over : (d : ℕ) (v : ChangeValue) (n : ℕ) → 65534 < d → None ≡ answered d v n
range-over d v n h = rw (lt-leb d 65534 h) refl

pub range-in : (d : ℕ) (v : ChangeValue) (n : ℕ) → d ≤ 65534 → read_of d v n ≡ answered d v n
range-in d v n h = rw (le-leb d 65534 h) refl

-- a change with its d in range, as the code answers it
found_as : (k : SignalEncoding) (d n : ℕ) (c : Content) (r : List ℕ) → read_as k n (found d c r) ≡ answered d (value_of k c) (n - length r)
found_as k d n c r = by (leb d max_delta)
  where
    by : (t : Bool) → read_as k n (pick t (got (change d c) r) bad) ≡ pick t (read_of d (value_of k c) (n - length r)) None
    by true = refl
    by false = refl

-- the place of a rest
rest_at : (s : List ℕ) (at : ℕ) → at ≤ length s → length s - length (drop at s) ≡ at
rest_at s at h = omega (arith, length-drop at s)

rest-after : (s : List ℕ) (at n : ℕ) → at + n ≤ length s → length s - length (drop n (drop at s)) ≡ at + n
rest-after s at n h = ap (λ (l : List ℕ). length s - length l) (drop-drop n at s) ∙ rest_at s (at + n) h

-- width 1
pub bit-over : (v n : ℕ) → 8 < v % 16 → None ≡ bit_answered v n
bit-over v n h = rw (lt-leb (v % 16) 8 h) refl

pub bit_in : (v n : ℕ) → v % 16 ≤ 8 → answered (v / 16) (value.SingleBit (record { 0 = v % 16 })) n ≡ bit_answered v n
bit_in v n h = rw (le-leb (v % 16) 8 h) refl

pub bit-value : (s : List ℕ) (at v : ℕ) → at ≤ length s → bit_answered v at ≡ read_as (BitVector 1) (length s) (value_after (BitVector 1) v (drop at s))
unfolding value_after
bit-value s at v h = by (leb (v % 16) 8)
  where
    by : (t : Bool) → pick t (answered (v / 16) (value.SingleBit (record { 0 = v % 16 })) at) None
        ≡ read_as (BitVector 1) (length s) (pick t (found (v / 16) (symbols (v % 16 ∷ [])) (drop at s)) bad)
    by true = sym (found_as (BitVector 1) (v / 16) (length s) (symbols (v % 16 ∷ [])) (drop at s) ∙ ap (answered (v / 16) (value.SingleBit (record { 0 = v % 16 }))) (rest_at s at h))
    by false = refl

pub event-value : (s : List ℕ) (at v : ℕ) → at ≤ length s → answered v value.Event at ≡ read_as (BitVector 0) (length s) (value_after (BitVector 0) v (drop at s))
unfolding value_after
event-value s at v h = sym (found_as (BitVector 0) v (length s) happened (drop at s) ∙ ap (answered v value.Event) (rest_at s at h))

-- reals
pub real-short : (s : List ℕ) (at v : ℕ) → length s - at < 8 → None ≡ read_as Real (length s) (value_after Real v (drop at s))
unfolding value_after
real-short s at v h = rw (lt-leb 8 (length (drop at s)) (omega (arith, length-drop at s))) refl

pub real-long : (s : List ℕ) (at v : ℕ) → at ≤ length s → 8 ≤ length s - at
    → answered v (value.Real (unle (take 8 (drop at s)))) (at + 8) ≡ read_as Real (length s) (value_after Real v (drop at s))
unfolding value_after
real-long s at v i h =
    let room : leb 8 (length (drop at s)) ≡ true = le-leb 8 (length (drop at s)) (omega (arith, length-drop at s)) in
    let b : Content = bits (unle (take 8 (drop at s))) in
    sym (ap (λ (t : Bool). read_as Real (length s) (pick t (found v b (drop 8 (drop at s))) bad)) room
    ∙ found_as Real v (length s) b (drop 8 (drop at s)) ∙ ap (answered v (value.Real (unle (take 8 (drop at s))))) (rest-after s at 8 (omega arith)))

-- bytes in their own class
pub own-top : (w c : ℕ) (b : List ℕ) (t : Bool) → t ≡ top_clear w c b → t ≡ false → false ≡ own_class w c b
own-top w c b t e f = sym (ap (λ (t : Bool). t && (all_symbols (unpacked w c b) && eqb (class_of_all (unpacked w c b)) c)) (sym e ∙ f))

pub own-by-class : (w c : ℕ) (b : List ℕ) (t : Bool) (n k : ℕ) → t ≡ top_clear w c b → t ≡ true → n ≡ largest_class (unpacked w c b) → k ≡ c → c ≤ 2 → eqb n k ≡ own_class w c b
own-by-class w c b t n k e f p q h = rw (← e, f, p, q) (own-found (unpacked w c b) c h)

-- of bits that are symbols each the top bits decide
pub own-two : (w : ℕ) (b : List ℕ) → own_class w 0 b ≡ top_clear w 0 b
own-two w b =
    let two : largest_class (unpacked w 0 b) ≡ 0 = unfold unpacked in bits-class w (number_of 8 b) in
    ap (λ (t : Bool). top_clear w 0 b && t) (sym (own-found (unpacked w 0 b) 0 (omega arith)) ∙ rw two refl) ∙ by (top_clear w 0 b)
  where
    by : (t : Bool) → t && true ≡ t
    by true = refl
    by false = refl

-- wider vectors
module _ (s : List ℕ) (at v w : ℕ) (inside : at ≤ length s) where
  -- class 3 is no class
  pub wide-three : v % 4 ≡ 3 → None ≡ read_as (BitVector w) (length s) (wide_after w v (drop at s))
  wide-three h =
      let u : List ℕ = unpacked w (v % 4) (take (packed_length w (v % 4)) (drop at s)) in
      let small = class-all-small u in
      let ne : class_of_all u ≡ v % 4 → ⊥ = λ e. omega arith in
      rw (ne_eqb (class_of_all u) (v % 4) ne)
      (refused (leb (packed_length w (v % 4)) (length (drop at s))) (top_clear w (v % 4) (take (packed_length w (v % 4)) (drop at s))) (all_symbols u)
      (found (v / 4) (symbols u) (drop (packed_length w (v % 4)) (drop at s))))
    where
      refused : (a b c : Bool) (g : Got Change) → None ≡ read_as (BitVector w) (length s) (pick (a && (b && (c && false))) g bad)
      refused true true true g = refl
      refused true true false g = refl
      refused true false c g = refl
      refused false b c g = refl

  pub wide_short : (n : ℕ) → n ≡ packed_length w (v % 4) → length s - at < n → None ≡ read_as (BitVector w) (length s) (wide_after w v (drop at s))
  wide_short n e h = rw (← e, lt-leb n (length (drop at s)) (omega (arith, length-drop at s))) refl

  pub wide-other : (n : ℕ) (t : Bool) → n ≡ packed_length w (v % 4) → t ≡ own_class w (v % 4) (take n (drop at s)) → t ≡ false
      → None ≡ read_as (BitVector w) (length s) (wide_after w v (drop at s))
  wide-other n t e f g = rw (← e, ← f, g) (by (leb n (length (drop at s))) (found (v / 4) (symbols (unpacked w (v % 4) (take n (drop at s)))) (drop n (drop at s))))
    where
      by : (a : Bool) (x : Got Change) → None ≡ read_as (BitVector w) (length s) (pick (a && false) x bad)
      by true x = refl
      by false x = refl

  pub wide-own : (n : ℕ) (t : Bool) (x : States) → n ≡ packed_length w (v % 4) → t ≡ own_class w (v % 4) (take n (drop at s)) → t ≡ true
      → n ≤ length s - at → 1 < w → class_number x ≡ v % 4 → states_of (v % 4) ≡ x
      → answered (v / 4) (value.MultiBit x) (at + n) ≡ read_as (BitVector w) (length s) (wide_after w v (drop at s))
  wide-own n t x e f g h k i j =
      let room : leb n (length (drop at s)) ≡ true = le-leb n (length (drop at s)) (omega (arith, length-drop at s)) in
      let u : List ℕ = unpacked w (v % 4) (take n (drop at s)) in
      let own = both_hold (top_clear w (v % 4) (take n (drop at s))) (all_symbols u && eqb (class_of_all u) (v % 4)) (sym f ∙ g) in
      let cls : class_of_all u ≡ v % 4 = eqb-true (class_of_all u) (v % 4) (both_hold (all_symbols u) (eqb (class_of_all u) (v % 4)) own.1).1 in
      rw (← e, room, ← f, g)
      (sym (found_as (BitVector w) (v / 4) (length s) (symbols u) (drop n (drop at s))
      ∙ ap₂ (answered (v / 4)) (vector-value w u k ∙ ap value.MultiBit (ap states_of cls ∙ j)) (rest-after s at n (omega arith))))
    where
      vector-value : (w : ℕ) (u : List ℕ) → 1 < w → value_of (BitVector w) (symbols u) ≡ value.MultiBit (states_of (class_of_all u))
      vector-value zero u k = absurd (omega arith)
      vector-value (suc zero) u k = absurd (omega arith)
      vector-value (suc (suc w)) u k = refl

-- by the kind
pub vector-wide : (w v : ℕ) (r : List ℕ) → (w ≡ 0 → ⊥) → (w ≡ 1 → ⊥) → wide_after w v r ≡ value_after (BitVector w) v r
unfolding value_after
vector-wide zero v r a b = absurd (a refl)
vector-wide (suc zero) v r a b = absurd (b refl)
vector-wide (suc (suc w)) v r a b = refl

pub absent-value : (n v : ℕ) (r : List ℕ) → None ≡ read_as Absent n (value_after Absent v r)
unfolding value_after
absent-value n v r = refl

-- by the number
pub number-value : (k : SignalEncoding) (s : List ℕ) (at v n : ℕ) → Bytes s → leb_at s at ≡ Some (v, n)
    → read_as k (length s) (value_after k v (drop n s)) ≡ change_at k s at
number-value k s at v n y e =
    let w = put-get s at v n y e in
    ap (read_as k (length s)) (sym (ap (read_change k) w.form ∙ number-there k v (drop n s) w.small))

pub number-inside : (s : List ℕ) (at v n : ℕ) → Bytes s → leb_at s at ≡ Some (v, n) → n ≤ length s
number-inside s at v n y e = (put-get s at v n y e).inside

pub number-bad : (k : SignalEncoding) (s : List ℕ) (at : ℕ) → Bytes s → leb_at s at ≡ None → None ≡ change_at k s at
unfolding read_change
number-bad k s at y e = by (read_leb 5 0 (drop at s)) refl
  where
    by : (l : Leb128) → read_leb 5 0 (drop at s) ≡ l → None ≡ read_as k (length s) (after_number k (drop at s) l)
    by None q = refl
    by (Some (v, n)) q =
        let w = read_is 5 0 v n (drop at s) (drop-bytes at s y) q in
        let r = get-put s at v (drop (length (leb_of v)) (drop at s)) w.small w.form in
        let z : ◌≡◌ {A = ℕ} 0 1 = cc in
        absurd (omega arith)

-- the class of a number's low bits, its size and its part
pub class-is : (v : ℕ) (x : States) → (v % 4 ≡ 3 → ⊥) → x ≡ states_of (v % 4) → class_number x ≡ v % 4
class-is v x h e = rw e (number-states (v % 4) (omega arith))

pub size_is : (w v n : ℕ) (x : States) → (v % 4 ≡ 3 → ⊥) → x ≡ states_of (v % 4) → n ≡ packed_length w (class_number x) → n ≡ packed_length w (v % 4)
size_is w v n x h e q = q ∙ ap (packed_length w) (class-is v x h e)

pub own_is : (w v n k : ℕ) (x : States) (t : Bool) (l : List ℕ) → (v % 4 ≡ 3 → ⊥) → x ≡ states_of (v % 4) → k ≡ n → t ≡ own_class w (class_number x) (take k l) → t ≡ own_class w (v % 4) (take n l)
own_is w v n k x t l h e q f = f ∙ ap₂ (λ (c m : ℕ). own_class w c (take m l)) (class-is v x h e) q

-- the same for class Two
pub two_size : (w v n : ℕ) → v % 4 ≡ 0 → n ≡ packed_length w 0 → n ≡ packed_length w (v % 4)
two_size w v n z q = q ∙ ap (packed_length w) (sym z)

pub two-own : (w v n k : ℕ) (t : Bool) (l : List ℕ) → v % 4 ≡ 0 → k ≡ n → t ≡ top_clear w 0 (take k l) → t ≡ own_class w (v % 4) (take n l)
two-own w v n k t l z q f = f ∙ sym (own-two w (take k l)) ∙ ap₂ (λ (c m : ℕ). own_class w c (take m l)) (sym z) q

-- by the kind, as the code knows it
module _ (k : SignalEncoding) (s : List ℕ) (at v : ℕ) (inside : at ≤ length s) where
  pub kind-event : (w : ℕ) → k ≡ BitVector w → w ≡ 0 → answered v value.Event at ≡ read_as k (length s) (value_after k v (drop at s))
  kind-event w e z = rw (e, z) (event-value s at v inside)

  pub kind-bit : (w : ℕ) → k ≡ BitVector w → w ≡ 1 → bit_answered v at ≡ read_as k (length s) (value_after k v (drop at s))
  kind-bit w e z = rw (e, z) (bit-value s at v inside)

  pub kind-wide : (w : ℕ) → k ≡ BitVector w → (w ≡ 0 → ⊥) → (w ≡ 1 → ⊥) → read_as (BitVector w) (length s) (wide_after w v (drop at s)) ≡ read_as k (length s) (value_after k v (drop at s))
  kind-wide w e a b = rw e (ap (read_as (BitVector w) (length s)) (vector-wide w v (drop at s) a b))

  pub kind-real : k ≡ Real → read_as Real (length s) (value_after Real v (drop at s)) ≡ read_as k (length s) (value_after k v (drop at s))
  kind-real e = rw e refl

  pub kind-absent : k ≡ Absent → None ≡ read_as k (length s) (value_after k v (drop at s))
  kind-absent e = rw e (absent-value (length s) v (drop at s))
