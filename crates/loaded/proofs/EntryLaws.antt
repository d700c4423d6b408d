-- An entry's bytes say its content: what is written in a signal of class C is read back in that class.
-- Assumes nothing.
use Prim.Native.Nat.{ℕ, zero, suc, ◌+◌, ◌-◌, ◌*◌, ◌/◌, ◌%◌, ◌≤◌, ◌<◌, ◌^◌}
use mathlib.Core.Path.{◌≡◌, refl, sym, ap, ◌∙◌, subst}
use mathlib.Core.Bool.{Bool, true, false, ◌&&◌}
use mathlib.Core.List.{List, [], ◌∷◌, ◌++◌}
use native.Mathlib.Nat.{zero-add, mul-add-mod_self_right, lt_of_mul-lt-mul_right, lt_of_lt_of_le}
use native.Mathlib.Omega.{arith}
use borrow.Author.Tests.{ltb-true, ltb-false, eqb-false}
use lib.Dec.{ltb, eqb}
use lib.ListN.{length, get_or, replicate}
use lib.Pow.{pow-add, pow_mono}
use Rattle.lists.specs.Choice.{pick}
use Rattle.lists.proofs.ChoiceLaws.{both_hold}
use Rattle.lists.proofs.SmallLaws.{one-element}
use Rattle.numbers.proofs.LittleEndianLaws.{unle-le}
use Rattle.value.specs.Class.{bits_of, class_of_all, all_symbols}
use Rattle.packed.specs.Packed.{number_of, digits, packed_length, packed, unpacked, top_clear}
use Rattle.packed.specs.Raw.{last_of}
use Rattle.packed.proofs.PackedLaws.{digits_mod, length-packed, packed-length, unpacked-packed, packed-top}
use Rattle.packed.proofs.RawLaws.{last-after}
use Rattle.signal.specs.declared.kind.SignalEncoding.{SignalEncoding}
use Rattle.signal.specs.declared.kind.SignalEncoding.TheVariants.{BitVector, Real, Absent}
use Rattle.signal.specs.Content.{Content, happened, symbols, bits, symbols_of, ContentFits}
use Rattle.stream.proofs.StreamTrip.{first-symbol}
use Rattle.loaded.specs.EntryBytes.{carrying, filled_to, wide_entry, entry_bytes, own_class_in, wide_content, entry_of}

-- ---- width 1

bit-trip : (c x : ℕ) → x ≤ 8 → (c * 64 + x) % 64 ≡ x
bit-trip c x h = omega arith

-- ---- wider

-- the packed bytes, after any others
after-others : (w t : ℕ) (a s : List ℕ) → length s ≡ w → all_symbols s ≡ true → class_of_all s ≤ t
    → unpacked w t (last_of (packed_length w t) (a ++ packed t s)) ≡ s
after-others w t a s e y k =
    subst (λ (v : ℕ). unpacked v t (last_of (packed_length v t) (a ++ packed t s)) ≡ s) e
    (ap (unpacked (length s) t) (last-after a (packed t s) (packed_length (length s) t) (length-packed t s)) ∙ unpacked-packed t s y k)

-- a first byte that also carries t × 64, where its two top bits are free
module _ (w t x : ℕ) (r : List ℕ) (free : w * bits_of t ≤ length r * 8 + 6) where
  carried-number : number_of 8 ((t * 64 + x) ∷ r) ≡ t * 2 ^ (length r * 8 + 6) + number_of 8 (x ∷ r)
  unfolding number_of
  carried-number =
      let p : ℕ = 2 ^ (length r * 8) in
      let e : 2 ^ (length r * 8 + 6) ≡ p * 64 = pow-add 2 (length r * 8) 6 in
      rw e (distributed p)
    where
      distributed : (p : ℕ) → (t * 64 + x) * p + number_of 8 r ≡ t * (p * 64) + (x * p + number_of 8 r)
      distributed p = omega arith

  carried-unpacked : unpacked w t ((t * 64 + x) ∷ r) ≡ unpacked w t (x ∷ r)
  unfolding unpacked
  carried-unpacked =
      let k : ℕ = length r * 8 + 6 in
      let n : ℕ = number_of 8 (x ∷ r) in
      sym (digits_mod (bits_of t) w k (number_of 8 ((t * 64 + x) ∷ r)) free)
      ∙ ap (digits (bits_of t) w) (ap (λ (v : ℕ). v % 2 ^ k) carried-number ∙ mul-add-mod_self_right t (2 ^ k) n)
      ∙ digits_mod (bits_of t) w k n free

  pub first_small : top_clear w t (x ∷ r) ≡ true → x < 64
  unfolding number_of
  first_small h =
      let p : ℕ = 2 ^ (length r * 8) in
      let e : 2 ^ (length r * 8 + 6) ≡ p * 64 = pow-add 2 (length r * 8) 6 in
      let n : x * p + number_of 8 r < 2 ^ (length r * 8 + 6) = lt_of_lt_of_le (ltb-true _ _ h) (pow_mono free) in
      lt_of_mul-lt-mul_right p (omega arith)

-- where no class byte precedes them and C is not Two, the bytes in C have two bits more than any class up to C needs
pub free-bits : (w c t : ℕ) → c ≤ 2 → t ≤ c → (ltb 0 c && eqb (w % (8 / bits_of c)) 0) ≡ false → 0 < c → w * bits_of t + 2 ≤ 8 * packed_length w c
free-bits w zero t h k e z = absurd (omega arith)
free-bits w (suc zero) zero h k e z = let f = eqb-false (w % 4) 0 e in omega arith
free-bits w (suc zero) (suc zero) h k e z = let f = eqb-false (w % 4) 0 e in omega arith
free-bits w (suc zero) (suc (suc t)) h k e z = absurd (omega arith)
free-bits w (suc (suc zero)) zero h k e z = let f = eqb-false (w % 2) 0 e in omega arith
free-bits w (suc (suc zero)) (suc zero) h k e z = let f = eqb-false (w % 2) 0 e in omega arith
free-bits w (suc (suc zero)) (suc (suc zero)) h k e z = let f = eqb-false (w % 2) 0 e in omega arith
free-bits w (suc (suc zero)) (suc (suc (suc t))) h k e z = absurd (omega arith)
free-bits w (suc (suc (suc c))) t h k e z = absurd (omega arith)

carrying-none : (b : List ℕ) → carrying 0 b ≡ b
carrying-none [] = refl
carrying-none (x ∷ b) = rw zero-add refl

own_first : (c x t : ℕ) (b : List ℕ) → 0 < c → x / 64 ≡ t → own_class_in c (x ∷ b) ≡ t
own_first zero x t b z e = absurd (omega arith)
own_first (suc c) x t b z e = e

own-two : (c : ℕ) (b : List ℕ) → c ≡ 0 → own_class_in c b ≡ 0
own-two zero b e = refl
own-two (suc c) b e = absurd (omega arith)

-- symbols of width w and class t, in a signal of class c
module _ (w c t : ℕ) (s : List ℕ) (wide : 0 < w) (e : length s ≡ w) (y : all_symbols s ≡ true) (own : class_of_all s ≡ t) (k : t ≤ c) (h : c ≤ 2) where
  abbrev Reads : List ℕ → Type 0
  Reads b = wide_content w (own_class_in c b) b ≡ symbols s

  -- what says its class, with the packed bytes last
  reads : (b : List ℕ) → own_class_in c b ≡ t → unpacked w t (last_of (packed_length w t) b) ≡ s → Reads b
  reads b o u = rw o (ap symbols u)

  last-is : (a : List ℕ) → unpacked w t (last_of (packed_length w t) (a ++ packed t s)) ≡ s
  last-is a = after-others w t a s e y (omega arith)

  class-byte : 0 < c → Reads (t * 64 ∷ filled_to (packed_length w c) (packed t s))
  class-byte z =
      reads (t * 64 ∷ filled_to (packed_length w c) (packed t s)) (own_first c (t * 64) t _ z (omega arith))
      (last-is (t * 64 ∷ replicate (packed_length w c - length (packed t s)) 0))

  class-two : c ≡ 0 → Reads (carrying (t * 64) (filled_to (packed_length w c) (packed t s)))
  class-two z =
      let t' : t * 64 ≡ 0 = omega arith in
      let b : List ℕ = filled_to (packed_length w c) (packed t s) in
      let f : carrying (t * 64) b ≡ b = ap (λ (m : ℕ). carrying m b) t' ∙ carrying-none b in
      subst Reads (sym f) (reads b (own-two c b z ∙ omega arith) (last-is (replicate (packed_length w c - length (packed t s)) 0)))

  carried_first : (x : ℕ) (r : List ℕ) → packed t s ≡ x ∷ r → w * bits_of t ≤ length r * 8 + 6 → 0 < c → Reads ((t * 64 + x) ∷ r)
  carried_first x r q free z =
      let top : top_clear w t (x ∷ r) ≡ true =
      subst (λ (b : List ℕ). top_clear w t b ≡ true) q (subst (λ (v : ℕ). top_clear v t (packed t s) ≡ true) e (packed-top t s y (omega arith))) in
      let small = first_small w t x r free top in
      let n : length ((t * 64 + x) ∷ r) ≡ packed_length w t = ap length (sym q) ∙ packed-length t w s e in
      let back : unpacked w t (x ∷ r) ≡ s = subst (λ (b : List ℕ). unpacked w t b ≡ s) q (subst (λ (v : ℕ). unpacked v t (packed t s) ≡ s) e (unpacked-packed t s y (omega arith))) in
      reads ((t * 64 + x) ∷ r) (own_first c (t * 64 + x) t r z (omega arith))
      (ap (unpacked w t) (last-after [] ((t * 64 + x) ∷ r) (packed_length w t) n) ∙ carried-unpacked w t x r free ∙ back)

  -- by how many zero bytes stand before the packed ones
  by-fill : (m : ℕ) → packed_length w c - length (packed t s) ≡ m → (ltb 0 c && eqb (w % (8 / bits_of c)) 0) ≡ false → 0 < c
      → Reads (carrying (t * 64) (replicate m 0 ++ packed t s))
  by-fill (suc m) q f z =
      reads ((t * 64 + 0) ∷ (replicate m 0 ++ packed t s)) (own_first c (t * 64 + 0) t _ z (omega arith)) (last-is ((t * 64 + 0) ∷ replicate m 0))
  by-fill zero q f z = by_bytes (packed t s) refl
    where
      by_bytes : (b : List ℕ) → packed t s ≡ b → Reads (carrying (t * 64) b)
      by_bytes [] p = let n = packed-length t w s e in let l = ap length p in absurd (by-class t n l)
        where
          by-class : (t : ℕ) → length (packed t s) ≡ packed_length w t → length (packed t s) ≡ 0 → ⊥
          by-class zero n l = omega arith
          by-class (suc zero) n l = omega arith
          by-class (suc (suc t)) n l = omega arith
      by_bytes (x ∷ r) p =
          let l = ap length p in
          let b = free-bits w c t h k f z in
          carried_first x r p (omega (arith, packed-length t w s e)) z

  wide_by : (u : Bool) → (ltb 0 c && eqb (w % (8 / bits_of c)) 0) ≡ u
      → Reads (pick u (t * 64 ∷ filled_to (packed_length w c) (packed t s)) (carrying (t * 64) (filled_to (packed_length w c) (packed t s))))
  wide_by true f = class-byte (ltb-true 0 c (both_hold (ltb 0 c) (eqb (w % (8 / bits_of c)) 0) f).0)
  wide_by false f = by_two (ltb 0 c) refl
    where
      by_two : (u : Bool) → ltb 0 c ≡ u → Reads (carrying (t * 64) (filled_to (packed_length w c) (packed t s)))
      by_two true z = by-fill (packed_length w c - length (packed t s)) refl f (ltb-true 0 c z)
      by_two false z = class-two (let l = ltb-false 0 c z in omega arith)

wide-trip : (w c : ℕ) (s : List ℕ) → 0 < w → length s ≡ w → all_symbols s ≡ true → class_of_all s ≤ c → c ≤ 2
    → wide_content w (own_class_in c (wide_entry w c s)) (wide_entry w c s) ≡ symbols s
wide-trip w c s z e y k h = wide_by w c (class_of_all s) s z e y refl k h (ltb 0 c && eqb (w % (8 / bits_of c)) 0) refl

-- ---- every kind

pub entry-trip : (k : SignalEncoding) (c : ℕ) (a : Content) → ContentFits k a → class_of_all (symbols_of a) ≤ c → c ≤ 2
    → entry_of k c (entry_bytes k c a) ≡ a
unfolding entry_of entry_bytes
entry-trip (BitVector zero) c happened f l h = refl
entry-trip (BitVector zero) c (symbols s) f l h = absurd f
entry-trip (BitVector zero) c (bits b) f l h = absurd f
entry-trip (BitVector (suc w)) c happened f l h = absurd f
entry-trip (BitVector (suc zero)) c (symbols s) f l h =
    let x : ℕ = get_or s 0 0 in
    rw (bit-trip (class_of_all s) x (first-symbol s f.1)) (ap symbols (sym (one-element s f.0)))
entry-trip (BitVector (suc (suc w))) c (symbols s) f l h = wide-trip (suc (suc w)) c s (omega arith) f.0 f.1 l h
entry-trip (BitVector (suc w)) c (bits b) f l h = absurd f
entry-trip Real c happened f l h = absurd f
entry-trip Real c (symbols s) f l h = absurd f
entry-trip Real c (bits b) f l h = ap bits (unle-le 8 b f)
entry-trip Absent c a f l h = absurd f
