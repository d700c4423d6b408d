-- The content of a change that was read: `content_read` is what `read_change` finds there.
-- Assumes nothing.
use Prim.Native.Nat.{ℕ, zero, suc, ◌+◌, ◌-◌, ◌*◌, ◌≤◌, ◌<◌}
use mathlib.Core.Path.{◌≡◌, refl, sym, ap, ◌∙◌, subst}
use mathlib.Core.Bool.{true}
use mathlib.Core.List.{List, ◌++◌, append_assoc}
use native.Mathlib.Omega.{arith}
use lib.ListN.{length, take, drop, length-append, take-append-drop}
use lib.Seq.{take_at, drop_at}
use Rattle.lists.specs.Bytes.{Bytes}
use Rattle.lists.specs.Got.{Got, bad, got}
use Rattle.lists.proofs.BytesLaws.{drop-bytes}
use Rattle.lists.proofs.SmallLaws.{one-element}
use Rattle.numbers.specs.Leb128.{leb_of}
use Rattle.value.specs.Class.{class_number, states_of, class_of_all, all_symbols}
use Rattle.value.proofs.ClassLaws.{number-states, class-all-small}
use Rattle.packed.specs.Packed.{packed, unpacked}
use Rattle.packed.proofs.PackedLaws.{packed-length, unpacked-packed}
use Rattle.signal.specs.declared.kind.SignalEncoding.{SignalEncoding}
use Rattle.signal.specs.declared.kind.SignalEncoding.TheVariants.{BitVector, Real, Absent}
use Rattle.signal.specs.declared.decode.ChangeValue.{ChangeValue}
use Rattle.signal.specs.Content.{Content, happened, symbols, bits, ContentFits}
use Rattle.signal.specs.Answer.{value_of}
use Rattle.stream.specs.Stream.{Change, change, change_bytes, read_change, max_delta}
use Rattle.std.proofs.lemmas.Option.{same_Some}
use Rattle.stream.specs.declared.read.ReadChange.{ReadChange}
use Rattle.stream.specs.Answer.{change_at, read_as, read_of}
use Rattle.stream.proofs.StreamTrip.{written_read, WrittenAs}
use Rattle.entry.specs.Read.{states_in, packed_before, wide_read, content_read, Reads, PackedThere}

regrouped : (a b c r : List ℕ) → a ++ ((b ++ c) ++ r) ≡ (a ++ b) ++ (c ++ r)
regrouped a b c r = simp append_assoc

-- a part b between others, found from its end
module _ (a b r s : List ℕ) (n : ℕ) (e : s ≡ a ++ (b ++ r)) (q : n ≡ length s - length r) where
  all-length : length s ≡ length a + (length b + length r)
  all-length = ap length e ∙ length-append a (b ++ r) ∙ ap (λ (m : ℕ). length a + m) (length-append b r)

  part-ends : n ≡ length a + length b
  part-ends = omega (arith, all-length)

  part-rest : drop n s ≡ r
  part-rest =
      rw (e, ← (append_assoc a b r)) (drop_at (a ++ b) r n (length-append a b ∙ sym part-ends))

  part-is : take (length b) (drop (n - length b) s) ≡ b
  part-is =
      let m : length a ≡ n - length b = omega (arith, part-ends) in
      ap (λ (l : List ℕ). take (length b) (drop (n - length b) l)) e ∙ ap (take (length b)) (drop_at a (b ++ r) (n - length b) m) ∙ take_at b r (length b) refl

-- symbols packed in their own class t stand before n
module _ (w : ℕ) (a r l s : List ℕ) (n : ℕ) (size : length s ≡ w) (y : all_symbols s ≡ true)
    (e : l ≡ a ++ (packed (class_of_all s) s ++ r)) (q : n ≡ length l - length r) where
  pub before-is : packed_before w (class_of_all s) n l ≡ packed (class_of_all s) s
  before-is = subst (λ (m : ℕ). take m (drop (n - m) l) ≡ packed (class_of_all s) s) (packed-length (class_of_all s) w s size) (part-is a (packed (class_of_all s) s) r l n e q)

  wide-content : wide_read w (class_of_all s) n l ≡ s
  wide-content =
      ap (unpacked w (class_of_all s)) before-is ∙ subst (λ (v : ℕ). unpacked v (class_of_all s) (packed (class_of_all s) s) ≡ s) size (unpacked-packed (class_of_all s) s y (omega arith))

  pub packed-there : PackedThere w (class_of_all s) n l
  packed-there = record {
    inside = omega (arith, part-ends a (packed (class_of_all s) s) r l n e q, (packed-length (class_of_all s) w s size));
    within = omega arith;
    all = rw wide-content y;
    class = ap class_of_all wide-content;
    back = ap (packed (class_of_all s)) wide-content ∙ sym before-is;
  }

number_of : (s : List ℕ) → class_number (states_of (class_of_all s)) ≡ class_of_all s
number_of s = number-states (class_of_all s) (class-all-small s)

-- a content whose bytes stand between others is the content read there
content-there : (k : SignalEncoding) (d : ℕ) (c : Content) (a r l : List ℕ) (n : ℕ) → ContentFits k c → l ≡ a ++ (change_bytes k d c ++ r) → n ≡ length l - length r
    → content_read k l (value_of k c) n ≡ c
unfolding content_read change_bytes
content-there (BitVector zero) d happened a r l n f e q = refl
content-there (BitVector zero) d (symbols s) a r l n f e q = absurd f
content-there (BitVector zero) d (bits b) a r l n f e q = absurd f
content-there (BitVector (suc w)) d happened a r l n f e q = absurd f
content-there (BitVector (suc zero)) d (symbols s) a r l n f e q = ap symbols (sym (one-element s f.0))
content-there (BitVector (suc (suc w))) d (symbols s) a r l n f e q =
    rw (number_of s)
    (ap symbols (wide-content (suc (suc w)) (a ++ leb_of (d * 4 + class_of_all s)) r l s n f.0 f.1 (e ∙ regrouped a (leb_of (d * 4 + class_of_all s)) (packed (class_of_all s) s) r) q))
content-there (BitVector (suc w)) d (bits b) a r l n f e q = absurd f
content-there Real d happened a r l n f e q = absurd f
content-there Real d (symbols s) a r l n f e q = absurd f
content-there Real d (bits b) a r l n f e q = refl
content-there Absent d c a r l n f e q = absurd f

-- the symbols of a wider vector stand packed before its end
vector-there : (k : SignalEncoding) (w d : ℕ) (c : Content) (a r l : List ℕ) (n : ℕ) → k ≡ BitVector w → 1 < w → ContentFits k c → l ≡ a ++ (change_bytes k d c ++ r) → n ≡ length l - length r
    → PackedThere w (class_number (states_in (value_of k c))) n l
unfolding change_bytes
vector-there (BitVector zero) w d c a r l n o h f e q = let z : zero ≡ w = cc in absurd (omega arith)
vector-there (BitVector (suc zero)) w d c a r l n o h f e q = let z : suc zero ≡ w = cc in absurd (omega arith)
vector-there (BitVector (suc (suc u))) w d happened a r l n o h f e q = absurd f
vector-there (BitVector (suc (suc u))) w d (symbols s) a r l n o h f e q =
    let z : suc (suc u) ≡ w = cc in
    rw (number_of s) (packed-there w (a ++ leb_of (d * 4 + class_of_all s)) r l s n (f.0 ∙ z) f.1 (e ∙ regrouped a (leb_of (d * 4 + class_of_all s)) (packed (class_of_all s) s) r) q)
vector-there (BitVector (suc (suc u))) w d (bits b) a r l n o h f e q = absurd f
vector-there Real w d c a r l n o h f e q = let z : ◌≡◌ {A = ℕ} 0 1 = cc in absurd (omega arith)
vector-there Absent w d c a r l n o h f e q = absurd f

-- what reading answered, at the place p of a stream
pub record ReadThere (k : SignalEncoding) (s : List ℕ) (v : ChangeValue) (n p d : ℕ) : Type 0 where
  pub found : read_change k (drop p s) ≡ got (change d (content_read k s v n)) (drop n s)
  pub small : d ≤ max_delta
  pub fits : ContentFits k (content_read k s v n)
  pub value : value_of k (content_read k s v n) ≡ v
  pub within : n ≤ length s
  pub packed : (w : ℕ) → k ≡ BitVector w → 1 < w → PackedThere w (class_number (states_in v)) n s

module _ (k : SignalEncoding) (s : List ℕ) (v : ChangeValue) (n p d : ℕ) (y : Bytes s) where
  read-got : (x : Change) (r : List ℕ) → read_change k (drop p s) ≡ got x r → x.d ≡ d → value_of k x.content ≡ v → length s - length r ≡ n → ReadThere k s v n p d
  read-got x r e f g h =
      let w : WrittenAs k (drop p s) x r = written_read k (drop p s) x r (drop-bytes p s y) e in
      let b : List ℕ = change_bytes k x.d x.content in
      let form : s ≡ take p s ++ (b ++ r) = sym (take-append-drop p s) ∙ ap (λ (l : List ℕ). take p s ++ l) w.form in
      let content : content_read k s v n ≡ x.content = subst (λ (u : ChangeValue). content_read k s u n ≡ x.content) g
      (content-there k x.d x.content (take p s) r s n w.fits.fits form (sym h)) in
      let rest : drop n s ≡ r = part-rest (take p s) b r s n form (sym h) in
      record {
        found = rw (content, ← f, rest) e;
        small = subst (λ (m : ℕ). m ≤ max_delta) f w.fits.small;
        fits = rw content w.fits.fits;
        value = rw content g;
        within = omega arith;
        packed = λ u o m. subst (λ (z : ChangeValue). PackedThere u (class_number (states_in z)) n s) g (vector-there k u x.d x.content (take p s) r s n o m w.fits.fits form (sym h));
      }

  pub read-there : change_at k s p ≡ read_of d v n → ReadThere k s v n p d
  read-there e = by (read_change k (drop p s)) refl e
    where
      by : (g : Got Change) → read_change k (drop p s) ≡ g → read_as k (length s) g ≡ read_of d v n → ReadThere k s v n p d
      by bad q e = let z : ◌≡◌ {A = ℕ} 0 1 = cc in absurd (omega arith)
      by (got x r) q e =
          let same = same_Some _ _ e in
          let f : x.d ≡ d = ap (λ (c : ReadChange). c.delta) same in
          let g : value_of k x.content ≡ v = ap (λ (c : ReadChange). c.value) same in
          let h : length s - length r ≡ n = ap (λ (c : ReadChange). c.next) same in
          read-got x r q f g h

pub reads-there : (k : SignalEncoding) (s : List ℕ) (v : ChangeValue) (n : ℕ) → Bytes s → (r : Reads k s v n) → ReadThere k s v n r.0 r.1
reads-there k s v n y r = read-there k s v n r.0 r.1 y r.2

-- of a wider vector, its packed bytes
pub packed-read : (k : SignalEncoding) (w t : ℕ) (s : List ℕ) (v : ChangeValue) (n : ℕ) → Bytes s → Reads k s v n → k ≡ BitVector w → (w ≡ 0 → ⊥) → (w ≡ 1 → ⊥)
    → t ≡ class_number (states_in v) → PackedThere w t n s
packed-read k w t s v n y r e z one f = rw f ((reads-there k s v n y r).packed w e (omega arith))
