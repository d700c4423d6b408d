-- Writing an entry: by the kind, what its bytes are; of a wider vector, zeros, the packed bytes, and the class in the first byte.
-- Assumes nothing.
use Prim.Native.Nat.{ℕ, zero, suc, ◌+◌, ◌-◌, ◌*◌, ◌≤◌, ◌<◌}
use mathlib.Core.Path.{◌≡◌, refl, sym, ap, ◌∙◌, subst}
use mathlib.Core.List.{List, [], ◌∷◌, ◌++◌}
use native.Mathlib.Nat.{max-zero}
use native.Mathlib.Omega.{arith}
use lib.ListN.{length, take, drop, get_or, set, replicate, length-replicate}
use lib.Seq.{sets, length-sets}
use Rattle.lists.specs.Bytes.{Bytes}
use Rattle.numbers.specs.LittleEndian.{le}
use Rattle.value.specs.Class.{class_number, states_of, class_of, class_of_all}
use Rattle.value.specs.declared.states.States.{States}
use Rattle.value.proofs.ClassLaws.{number-states, class-small}
use Rattle.packed.specs.Packed.{packed_length}
use Rattle.packed.proofs.PackedLaws.{length-unpacked}
use Rattle.signal.specs.declared.kind.SignalEncoding.{SignalEncoding}
use Rattle.signal.specs.declared.kind.SignalEncoding.TheVariants.{BitVector, Real, Absent}
use Rattle.signal.specs.declared.decode.ChangeValue.{ChangeValue}
use Rattle.signal.specs.Content.{symbols_of, ContentFits}
use Rattle.stream.proofs.WriteLaws.{two-writes}
use Rattle.stream.proofs.StreamTrip.{first-symbol}
use Rattle.loaded.specs.EntryBytes.{filled_to, wide_entry, entry_bytes}
use Rattle.entry.specs.Length.{wide_length}
use Rattle.entry.specs.Read.{bit_in, states_in, bits_in, packed_before, wide_read, content_read, Reads, PackedThere}
use Rattle.entry.proofs.LengthLaws.{length-wide}
use Rattle.entry.proofs.WideLaws.{wide-some, own-size, own-fewer, entry-is, filled-size, first_fits}
use Rattle.entry.proofs.ReadThere.{reads-there}
use Rattle.entry_put.proofs.PartLaws.{first-at, carried-at}

-- ---- a wider vector

-- symbols packed in their own class t before n, in a signal of class c, and where its entry goes
module _ (w c t n : ℕ) (l : List ℕ) (pos : 0 < w) (k : t ≤ c) (h : c ≤ 2) (there : PackedThere w t n l)
    (old : List ℕ) (at : ℕ) (room : at + wide_length w c ≤ length old) where
  pub part_room : (mid : List ℕ) (own size start : ℕ) → own ≡ packed_length w t → size ≡ wide_length w c
      → start ≡ at + (size - own) → mid ≡ sets old at (replicate (size - own) 0)
      → (start + own ≤ length mid) × (n - own + own ≤ length l)
  part_room mid own size start e1 e2 f1 g1 =
      (omega (arith, own-fewer w c t n l pos k h there, ap length g1, length-sets old at (replicate (size - own) 0)), omega (arith, there.inside, there.within))

  -- zeros, then the packed bytes
  pub zeros-then : (mid new : List ℕ) (own size start end : ℕ) → own ≡ packed_length w t → size ≡ wide_length w c
      → start ≡ at + (size - own) → mid ≡ sets old at (replicate (size - own) 0)
      → end ≡ start + own → new ≡ sets mid start (take own (drop (n - own) l))
      → (end ≡ at + wide_length w c) × (new ≡ sets old at (filled_to (wide_length w c) (packed_before w t n l)))
  zeros-then mid new own size start end e1 e2 f1 g1 f2 g2 =
      let b : List ℕ = packed_before w t n l in
      let z : size - own ≡ wide_length w c - length b = rw (e1, e2, own-size w c t n l pos k h there) refl in
      let p : take own (drop (n - own) l) ≡ b = ap (λ (m : ℕ). take m (drop (n - m) l)) e1 in
      let both = two-writes (replicate (size - own) 0) b old mid new at start end (f1 ∙ ap (λ (m : ℕ). at + m) (sym (length-replicate {A = ℕ} (size - own) 0))) g1
      (f2 ∙ ap (λ (m : ℕ). start + m) (e1 ∙ sym (own-size w c t n l pos k h there))) (g2 ∙ ap (sets mid start) p) in
      (omega (arith, own-fewer w c t n l pos k h there), both.1 ∙ ap (λ (m : ℕ). sets old at (replicate m 0 ++ b)) z)

  pub carry-room : (new : List ℕ) → new ≡ sets old at (filled_to (wide_length w c) (packed_before w t n l)) → (at < length new) × (t * 64 + get_or new at 0 < 256)
  carry-room new e =
      let f : List ℕ = filled_to (wide_length w c) (packed_before w t n l) in
      let some : 0 < length f = omega (arith, filled-size w c t n l pos k h there, wide-some w c pos) in
      let fits : at + length f ≤ length old = omega (arith, filled-size w c t n l pos k h there) in
      (omega (arith, ap length e, length-sets old at f), rw (e, first-at f old at some fits) (first_fits w c t n l pos k h there))

  pub carry-then : (new out : List ℕ) → new ≡ sets old at (filled_to (wide_length w c) (packed_before w t n l)) → out ≡ set new at (t * 64 + get_or new at 0)
      → out ≡ sets old at (wide_entry w c (wide_read w t n l))
  carry-then new out e g =
      let f : List ℕ = filled_to (wide_length w c) (packed_before w t n l) in
      let some : 0 < length f = omega (arith, filled-size w c t n l pos k h there, wide-some w c pos) in
      let fits : at + length f ≤ length old = omega (arith, filled-size w c t n l pos k h there) in
      g ∙ rw (e, first-at f old at some fits, entry-is w c t n l pos k h there) (carried-at f old at some fits (t * 64))

-- ---- width 1

pub bit-class : (x m : ℕ) (y : States) → y ≡ states_of (class_of x) → m ≡ class_number y → (m ≡ class_of x) × (m ≤ 2)
bit-class x m y e f = let q : m ≡ class_of x = f ∙ ap class_number e ∙ number-states (class_of x) (class-small x) in (q, omega (arith, class-small x))

-- ---- every kind

module _ (k : SignalEncoding) (c w : ℕ) (s : List ℕ) (v : ChangeValue) (n : ℕ) where
  pub event-entry : k ≡ BitVector w → w ≡ 0 → entry_bytes k c (content_read k s v n) ≡ []
  unfolding entry_bytes content_read
  event-entry e z = rw (e, z) refl

  pub bit-entry : k ≡ BitVector w → w ≡ 1 → entry_bytes k c (content_read k s v n) ≡ (class_of (bit_in v) * 64 + bit_in v) ∷ []
  unfolding entry_bytes content_read class_of_all
  bit-entry e z = rw (e, z, max-zero) refl

  pub bit-small : ContentFits k (content_read k s v n) → k ≡ BitVector w → w ≡ 1 → bit_in v ≤ 8
  unfolding content_read
  bit-small f e z =
      let g : ContentFits (BitVector 1) (content_read (BitVector 1) s v n) = subst (λ (k : SignalEncoding). ContentFits k (content_read k s v n)) (e ∙ ap BitVector z) f in
      first-symbol (bit_in v ∷ []) g.1

  pub real-entry : k ≡ Real → entry_bytes k c (content_read k s v n) ≡ le 8 (bits_in v)
  unfolding entry_bytes content_read
  real-entry e = rw e refl

  pub absent-entry : k ≡ Absent → entry_bytes k c (content_read k s v n) ≡ []
  unfolding entry_bytes content_read
  absent-entry e = rw e refl

pub wide-entry : (w c : ℕ) (s : List ℕ) (v : ChangeValue) (n : ℕ) → 1 < w
    → (entry_bytes (BitVector w) c (content_read (BitVector w) s v n) ≡ wide_entry w c (wide_read w (class_number (states_in v)) n s))
    × (symbols_of (content_read (BitVector w) s v n) ≡ wide_read w (class_number (states_in v)) n s)
unfolding entry_bytes content_read
wide-entry zero c s v n h = absurd (omega arith)
wide-entry (suc zero) c s v n h = absurd (omega arith)
wide-entry (suc (suc w)) c s v n h = (refl, refl)

-- what writing a wider vector needs, of what reading answered
pub record WidePut (k : SignalEncoding) (w c t : ℕ) (s : List ℕ) (v : ChangeValue) (n : ℕ) : Type 0 where
  pub wide : 1 < w
  pub class : t ≤ c
  pub there : PackedThere w t n s
  pub bytes : entry_bytes k c (content_read k s v n) ≡ wide_entry w c (wide_read w t n s)
  pub size : length (entry_bytes k c (content_read k s v n)) ≡ wide_length w c

pub wide-put : (k : SignalEncoding) (w c t : ℕ) (s : List ℕ) (v : ChangeValue) (n : ℕ) → Bytes s → Reads k s v n → class_of_all (symbols_of (content_read k s v n)) ≤ c → c ≤ 2
    → k ≡ BitVector w → (w ≡ 0 → ⊥) → (w ≡ 1 → ⊥) → t ≡ class_number (states_in v) → WidePut k w c t s v n
wide-put k w c t s v n y r q h e z one f =
    let wide : 1 < w = omega arith in
    let there : PackedThere w t n s = rw f ((reads-there k s v n y r).packed w e wide) in
    let u = wide-entry w c s v n wide in
    let same : symbols_of (content_read k s v n) ≡ wide_read w t n s = rw (e, f) u.1 in
    let class : t ≤ c = omega (arith, ap class_of_all same, there.class) in
    let bytes : entry_bytes k c (content_read k s v n) ≡ wide_entry w c (wide_read w t n s) = rw (e, f) u.0 in
    record {
      wide = wide;
      class = class;
      there = there;
      bytes = bytes;
      size = ap length bytes ∙ length-wide w c (wide_read w t n s) (length-unpacked w t (packed_before w t n s)) (omega (arith, there.class)) h;
    }
