-- Reading a change accepts exactly what writing makes: what is written is read back, whatever stands after it, and what is read was
-- written so.
-- Assumes nothing.
use Prim.Native.Nat.{ℕ, zero, suc, ◌+◌, ◌*◌, ◌/◌, ◌%◌, ◌≤◌, ◌<◌, ◌^◌}
use mathlib.Core.Path.{◌≡◌, refl, sym, ap, ap₂, ◌∙◌, subst}
use mathlib.Core.Bool.{true, ◌&&◌}
use mathlib.Core.List.{List, [], ◌∷◌, ◌++◌, append_assoc}
use native.Mathlib.Nat.{zero-add}
use native.Mathlib.Omega.{arith}
use borrow.Author.Tests.{le-leb, leb-true, eq-eqb, eqb-true}
use lib.Dec.{leb, eqb}
use lib.ListN.{length, take, drop, get_or, length-append, take-append-drop}
use lib.Seq.{drop-append_seam, length-take-le, take_at, drop_at}
use Rattle.std.specs.Prelude.{Some, None}
use Rattle.lists.specs.Got.{got}
use Rattle.lists.specs.Bytes.{Bytes}
use Rattle.lists.proofs.BytesLaws.{drop-bytes, take-bytes}
use Rattle.lists.proofs.ChoiceLaws.{both_hold}
use Rattle.lists.proofs.SmallLaws.{one-element}
use Rattle.lists.proofs.GotLaws.{bad-got, by-test}
use Rattle.numbers.specs.Leb128.{Leb128, leb_of, read_leb}
use Rattle.numbers.specs.LittleEndian.{le, unle}
use Rattle.numbers.proofs.Leb128Trip.{read_of, read_is, Written}
use Rattle.numbers.proofs.LittleEndianLaws.{length-le, unle-le, le-unle, unle-lt}
use Rattle.value.specs.Class.{class_of_all, all_symbols}
use Rattle.value.proofs.ClassLaws.{class-all-small}
use Rattle.packed.specs.Packed.{packed, unpacked, packed_length, top_clear}
use Rattle.packed.proofs.PackedLaws.{length-packed, length-unpacked, unpacked-packed, packed-top, packed-unpacked}
use Rattle.signal.specs.declared.kind.SignalEncoding.{SignalEncoding}
use Rattle.signal.specs.declared.kind.SignalEncoding.TheVariants.{BitVector, Real, Absent}
use Rattle.signal.specs.Content.{Content, happened, symbols, bits, ContentFits}
use Rattle.stream.specs.Stream.{Change, change, ChangeFits, max_delta, change_bytes, found, bit_after, own_class, wide_after, value_after, after_number, read_change}

-- a number is read, and its value from the bytes after it
pub number-there : (k : SignalEncoding) (v : ℕ) (r : List ℕ) → v < 2 ^ 32 → read_change k (leb_of v ++ r) ≡ value_after k v r
unfolding read_change
number-there k v r h =
    ap (after_number k (leb_of v ++ r)) (read_of 4 0 v r h (omega arith))
    ∙ ap (value_after k v) (ap (λ (n : ℕ). drop n (leb_of v ++ r)) (zero-add (length (leb_of v))) ∙ drop-append_seam (leb_of v) r)

found-there : (d : ℕ) (c : Content) (r : List ℕ) → d ≤ max_delta → found d c r ≡ got (change d c) r
found-there d c r h = rw (le-leb d max_delta h) refl

bit-there : (d s : ℕ) (r : List ℕ) → d ≤ max_delta → s ≤ 8 → bit_after (d * 16 + s) r ≡ got (change d (symbols (s ∷ []))) r
bit-there d s r h k =
    let low : (d * 16 + s) % 16 ≡ s = omega arith in
    let high : (d * 16 + s) / 16 ≡ d = omega arith in
    rw (low, high, le-leb s 8 k, le-leb d max_delta h) refl

own-there : (c : ℕ) (s : List ℕ) → all_symbols s ≡ true → class_of_all s ≡ c → own_class (length s) c (packed c s) ≡ true
own-there c s a e =
    let top = packed-top c s a (omega arith) in
    let back = unpacked-packed c s a (omega arith) in
    rw (top, back, a, eq-eqb (class_of_all s) c e) refl

wide-there : (w d : ℕ) (s r : List ℕ) → length s ≡ w → all_symbols s ≡ true → d ≤ max_delta
    → wide_after w (d * 4 + class_of_all s) (packed (class_of_all s) s ++ r) ≡ got (change d (symbols s)) r
wide-there w d s r e a h =
    let c : ℕ = class_of_all s in
    let small = class-all-small s in
    let low : (d * 4 + c) % 4 ≡ c = omega arith in
    let high : (d * 4 + c) / 4 ≡ d = omega arith in
    let n : length (packed c s) ≡ packed_length w c = length-packed c s ∙ ap (λ (v : ℕ). packed_length v c) e in
    let front : take (packed_length w c) (packed c s ++ r) ≡ packed c s = take_at (packed c s) r (packed_length w c) n in
    let rest : drop (packed_length w c) (packed c s ++ r) ≡ r = drop_at (packed c s) r (packed_length w c) n in
    let room : leb (packed_length w c) (length (packed c s ++ r)) ≡ true = le-leb (packed_length w c) (length (packed c s ++ r)) (omega (arith, length-append (packed c s) r)) in
    let own : own_class w c (packed c s) ≡ true = subst (λ (v : ℕ). own_class v c (packed c s) ≡ true) e (own-there c s a refl) in
    let back : unpacked w c (packed c s) ≡ s = subst (λ (v : ℕ). unpacked v c (packed c s) ≡ s) e (unpacked-packed c s a (omega arith)) in
    rw (low, high, room, front, own, back, rest, le-leb d max_delta h) refl

real-there : (d b : ℕ) (r : List ℕ) → d ≤ max_delta → b < 2 ^ 64 → value_after Real d (le 8 b ++ r) ≡ got (change d (bits b)) r
unfolding value_after
real-there d b r h k =
    let front : take 8 (le 8 b ++ r) ≡ le 8 b = take_at (le 8 b) r 8 (length-le 8 b) in
    let rest : drop 8 (le 8 b ++ r) ≡ r = drop_at (le 8 b) r 8 (length-le 8 b) in
    let room : leb 8 (length (le 8 b ++ r)) ≡ true = le-leb 8 (length (le 8 b ++ r)) (omega (arith, length-append (le 8 b) r, length-le 8 b)) in
    rw (room, front, rest, unle-le 8 b k, le-leb d max_delta h) refl

pub first-symbol : (s : List ℕ) → all_symbols s ≡ true → get_or s 0 0 ≤ 8
unfolding all_symbols
first-symbol [] a = omega arith
first-symbol (x ∷ s) a = leb-true x 8 (both_hold (leb x 8) (all_symbols s) a).0

-- what is written is read back, whatever stands after it
pub read-written : (k : SignalEncoding) (d : ℕ) (c : Content) (r : List ℕ) → d ≤ max_delta → ContentFits k c
    → read_change k (change_bytes k d c ++ r) ≡ got (change d c) r
unfolding change_bytes
read-written (BitVector zero) d happened r h f =
    number-there (BitVector zero) d r (omega arith) ∙ unfold value_after in found-there d happened r h
read-written (BitVector zero) d (symbols s) r h f = absurd f
read-written (BitVector zero) d (bits b) r h f = absurd f
read-written (BitVector (suc w)) d happened r h f = absurd f
read-written (BitVector (suc zero)) d (symbols s) r h f =
    let x = first-symbol s f.1 in
    number-there (BitVector (suc zero)) (d * 16 + get_or s 0 0) r (omega arith)
    ∙ unfold value_after in bit-there d (get_or s 0 0) r h x
    ∙ ap (λ (l : List ℕ). got (change d (symbols l)) r) (sym (one-element s f.0))
read-written (BitVector (suc (suc w))) d (symbols s) r h f =
    let small = class-all-small s in
    ap (read_change (BitVector (suc (suc w)))) (append_assoc (leb_of (d * 4 + class_of_all s)) (packed (class_of_all s) s) r)
    ∙ number-there (BitVector (suc (suc w))) (d * 4 + class_of_all s) (packed (class_of_all s) s ++ r) (omega arith)
    ∙ unfold value_after in wide-there (suc (suc w)) d s r f.0 f.1 h
read-written (BitVector (suc w)) d (bits b) r h f = absurd f
read-written Real d happened r h f = absurd f
read-written Real d (symbols s) r h f = absurd f
read-written Real d (bits b) r h f =
    ap (read_change Real) (append_assoc (leb_of d) (le 8 b) r) ∙ number-there Real d (le 8 b ++ r) (omega arith) ∙ real-there d b r h f
read-written Absent d c r h f = absurd f

-- what was read: a change that fits, and bytes that are its form
pub record WrittenAs (k : SignalEncoding) (s : List ℕ) (x : Change) (r : List ℕ) : Type 0 where
  pub fits : ChangeFits k x
  pub form : s ≡ change_bytes k x.d x.content ++ r

-- a change with its d in range
by-found : {A : Type 0} (d : ℕ) (c : Content) (t : List ℕ) {x : Change} {r : List ℕ} → found d c t ≡ got x r
    → (d ≤ max_delta → change d c ≡ x → t ≡ r → A) → A
by-found {A} d c t {x} {r} e f = by-test (leb d max_delta) (got (change d c) t) e (λ l g. same (leb-true d max_delta l) g)
  where
    same : d ≤ max_delta → got (change d c) t ≡ got x r → A
    same l g = let p : change d c ≡ x = cc in let q : t ≡ r = cc in f l p q

-- a change read after its number v, before the bytes t
Back : SignalEncoding → (v : ℕ) → List ℕ → Change → List ℕ → Type 0
Back k v t x r = WrittenAs k (leb_of v ++ t) x r

event-back : (v : ℕ) (t : List ℕ) (x : Change) (r : List ℕ) → found v happened t ≡ got x r → Back (BitVector zero) v t x r
unfolding Back
event-back v t x r e = by-found v happened t e (λ h p q.
    subst (λ (y : Change). WrittenAs (BitVector zero) (leb_of v ++ t) y r) p
    (record { fits = record { small = h; fits = tt }; form = unfold change_bytes in ap (λ (l : List ℕ). leb_of v ++ l) q }))

bit-back : (v : ℕ) (t : List ℕ) (x : Change) (r : List ℕ) → bit_after v t ≡ got x r → Back (BitVector (suc zero)) v t x r
unfolding Back all_symbols
bit-back v t x r e = by-test (leb (v % 16) 8) (found (v / 16) (symbols (v % 16 ∷ [])) t) e (λ l g.
    by-found (v / 16) (symbols (v % 16 ∷ [])) t g (λ h p q.
    subst (λ (y : Change). WrittenAs (BitVector (suc zero)) (leb_of v ++ t) y r) p
    (record {
      fits = record { small = h; fits = (refl, rw l refl) };
      form = unfold change_bytes in ap₂ (λ (n : ℕ) (l : List ℕ). leb_of n ++ l) (number v) q;
    })))
  where
    number : (v : ℕ) → v ≡ v / 16 * 16 + v % 16
    number v = omega arith

wide_form : (w v : ℕ) (t : List ℕ) → Bytes t → packed_length w (v % 4) ≤ length t → top_clear w (v % 4) (take (packed_length w (v % 4)) t) ≡ true
    → class_of_all (unpacked w (v % 4) (take (packed_length w (v % 4)) t)) ≡ v % 4
    → leb_of v ++ t ≡ (leb_of (v / 4 * 4 + class_of_all (unpacked w (v % 4) (take (packed_length w (v % 4)) t)))
    ++ packed (class_of_all (unpacked w (v % 4) (take (packed_length w (v % 4)) t))) (unpacked w (v % 4) (take (packed_length w (v % 4)) t)))
    ++ drop (packed_length w (v % 4)) t
wide_form w v t y h top cls =
    let c : ℕ = v % 4 in
    let n : ℕ = packed_length w c in
    let number : v / 4 * 4 + c ≡ v = omega arith in
    let part : packed c (unpacked w c (take n t)) ≡ take n t = packed-unpacked w c (take n t) (take-bytes n t y) (length-take-le n t h) top in
    sym (append_assoc (leb_of (v / 4 * 4 + class_of_all (unpacked w c (take n t)))) (packed (class_of_all (unpacked w c (take n t))) (unpacked w c (take n t))) (drop n t)
    ∙ rw (cls, number, part, take-append-drop n t) refl)

wide_back : (w v : ℕ) (t : List ℕ) (x : Change) (r : List ℕ) → Bytes t → wide_after (suc (suc w)) v t ≡ got x r → Back (BitVector (suc (suc w))) v t x r
unfolding Back change_bytes
wide_back w v t x r y e =
    let u : ℕ = suc (suc w) in
    let n : ℕ = packed_length u (v % 4) in
    let b : List ℕ = take n t in
    let s : List ℕ = unpacked u (v % 4) b in
    by-test (leb n (length t) && own_class u (v % 4) b) (found (v / 4) (symbols s) (drop n t)) e (λ l g.
    by-found (v / 4) (symbols s) (drop n t) g (λ h p q.
    let room = both_hold (leb n (length t)) (own_class u (v % 4) b) l in
    let own = both_hold (top_clear u (v % 4) b) (all_symbols s && eqb (class_of_all s) (v % 4)) room.1 in
    let all = both_hold (all_symbols s) (eqb (class_of_all s) (v % 4)) own.1 in
    subst (λ (z : Change). WrittenAs (BitVector u) (leb_of v ++ t) z r) p
    (record {
      fits = record { small = h; fits = (length-unpacked u (v % 4) b, all.0) };
      form =
          wide_form u v t y (leb-true n (length t) room.0) own.0 (eqb-true (class_of_all s) (v % 4) all.1)
          ∙ ap (λ (l : List ℕ). (leb_of (v / 4 * 4 + class_of_all s) ++ packed (class_of_all s) s) ++ l) q;
    })))

real-back : (v : ℕ) (t : List ℕ) (x : Change) (r : List ℕ) → Bytes t → value_after Real v t ≡ got x r → Back Real v t x r
unfolding Back value_after change_bytes
real-back v t x r y e = by-test (leb 8 (length t)) (found v (bits (unle (take 8 t))) (drop 8 t)) e (λ l g.
    by-found v (bits (unle (take 8 t))) (drop 8 t) g (λ h p q.
    let n : length (take 8 t) ≡ 8 = length-take-le 8 t (leb-true 8 (length t) l) in
    let same : le 8 (unle (take 8 t)) ≡ take 8 t = subst (λ (m : ℕ). le m (unle (take 8 t)) ≡ take 8 t) n (le-unle (take 8 t) (take-bytes 8 t y)) in
    subst (λ (z : Change). WrittenAs Real (leb_of v ++ t) z r) p
    (record {
      fits = record { small = h; fits = unle-lt 8 t y };
      form =
          sym (append_assoc (leb_of v) (le 8 (unle (take 8 t))) r ∙ rw (same, ← q, take-append-drop 8 t) refl);
    })))

value-back : (k : SignalEncoding) (v : ℕ) (t : List ℕ) (x : Change) (r : List ℕ) → Bytes t → value_after k v t ≡ got x r → Back k v t x r
unfolding value_after
value-back (BitVector zero) v t x r y e = event-back v t x r e
value-back (BitVector (suc zero)) v t x r y e = bit-back v t x r e
value-back (BitVector (suc (suc w))) v t x r y e = wide_back w v t x r y e
value-back Real v t x r y e = real-back v t x r y e
value-back Absent v t x r y e = bad-got e

-- what is read was written so
pub written_read : (k : SignalEncoding) (s : List ℕ) (x : Change) (r : List ℕ) → Bytes s → read_change k s ≡ got x r → WrittenAs k s x r
unfolding read_change Back
written_read k s x r y e = by (read_leb 5 0 s) refl e
  where
    by : (l : Leb128) → read_leb 5 0 s ≡ l → after_number k s l ≡ got x r → WrittenAs k s x r
    by (Some (v, n)) q e =
        let w : Written 0 v n s = read_is 5 0 v n s y q in
        let past : n ≡ length (leb_of v) = w.past ∙ zero-add (length (leb_of v)) in
        subst (λ (l : List ℕ). WrittenAs k l x r) (sym (w.form ∙ ap (λ (m : ℕ). leb_of v ++ drop m s) (sym past)))
        (value-back k v (drop n s) x r (drop-bytes n s y) e)
    by None q e = bad-got e
