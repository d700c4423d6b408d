-- How long an entry is.
-- Assumes nothing.
use Prim.Native.Nat.{ℕ, zero, suc, ◌+◌, ◌-◌, ◌*◌, ◌≤◌, ◌<◌}
use mathlib.Core.Path.{◌≡◌, refl, sym, ap, ◌∙◌}
use mathlib.Core.Bool.{Bool, true, false}
use mathlib.Core.List.{List, [], ◌∷◌, ◌++◌}
use native.Mathlib.Nat.{zero-add}
use native.Mathlib.Omega.{arith}
use lib.ListN.{length, replicate, length-append, length-replicate}
use Rattle.lists.specs.Choice.{pick}
use Rattle.numbers.proofs.LittleEndianLaws.{length-le}
use Rattle.value.specs.Class.{class_of_all}
use Rattle.packed.specs.Packed.{packed_length, packed}
use Rattle.packed.proofs.PackedLaws.{packed-length}
use Rattle.signal.specs.declared.kind.SignalEncoding.{SignalEncoding}
use Rattle.signal.specs.declared.kind.SignalEncoding.TheVariants.{BitVector, Real, Absent}
use Rattle.signal.specs.Content.{Content, happened, symbols, bits, symbols_of, ContentFits}
use Rattle.loaded.specs.EntryBytes.{carrying, filled_to, wide_entry, entry_bytes}
use Rattle.entry.specs.Length.{class_byte, wide_length, entry_length}

-- a lower class takes no more bytes
pub packed-fewer : (w t c : ℕ) → t ≤ c → c ≤ 2 → packed_length w t ≤ packed_length w c
packed-fewer w zero zero k h = omega arith
packed-fewer w zero (suc zero) k h = omega arith
packed-fewer w zero (suc (suc c)) k h = omega arith
packed-fewer w (suc zero) zero k h = absurd (omega arith)
packed-fewer w (suc zero) (suc zero) k h = omega arith
packed-fewer w (suc zero) (suc (suc c)) k h = omega arith
packed-fewer w (suc (suc t)) zero k h = absurd (omega arith)
packed-fewer w (suc (suc t)) (suc zero) k h = absurd (omega arith)
packed-fewer w (suc (suc t)) (suc (suc c)) k h = omega arith

pub length-carrying : (m : ℕ) (b : List ℕ) → length (carrying m b) ≡ length b
length-carrying m [] = refl
length-carrying m (x ∷ b) = refl

pub length-filled : (n : ℕ) (b : List ℕ) → length b ≤ n → length (filled_to n b) ≡ n
length-filled n b h = omega (arith, length-append (replicate (n - length b) 0) b, length-replicate {A = ℕ} (n - length b) 0)

-- a class byte before the filled bytes is one byte of filling more, which carries the class
pub wide-carrying : (w c t : ℕ) (b : List ℕ) → length b ≤ packed_length w c
    → pick (class_byte w c) (t * 64 ∷ filled_to (packed_length w c) b) (carrying (t * 64) (filled_to (packed_length w c) b))
    ≡ carrying (t * 64) (filled_to (wide_length w c) b)
wide-carrying w c t b h = by (class_byte w c) (packed_length w c) h
  where
    by : (u : Bool) (n : ℕ) → length b ≤ n → pick u (t * 64 ∷ filled_to n b) (carrying (t * 64) (filled_to n b)) ≡ carrying (t * 64) (filled_to (pick u 1 0 + n) b)
    by true n h =
        let e : 1 + n - length b ≡ suc (n - length b) = omega arith in
        let z : t * 64 ≡ t * 64 + 0 = omega arith in
        rw e (ap (λ (x : ℕ). x ∷ (replicate (n - length b) 0 ++ b)) z)
    by false n h = rw (zero-add n) refl

module _ (w c : ℕ) (s : List ℕ) (e : length s ≡ w) (k : class_of_all s ≤ c) (h : c ≤ 2) where
  pub wide_is : wide_entry w c s ≡ carrying (class_of_all s * 64) (filled_to (wide_length w c) (packed (class_of_all s) s))
  wide_is = wide-carrying w c (class_of_all s) (packed (class_of_all s) s) (omega (arith, packed-length (class_of_all s) w s e, packed-fewer w (class_of_all s) c k h))

  pub length-wide : length (wide_entry w c s) ≡ wide_length w c
  length-wide =
      ap length wide_is ∙ length-carrying (class_of_all s * 64) (filled_to (wide_length w c) (packed (class_of_all s) s))
      ∙ length-filled (wide_length w c) (packed (class_of_all s) s) (omega (arith, packed-length (class_of_all s) w s e, packed-fewer w (class_of_all s) c k h))

-- the entry bytes of every content that fits
pub entry_length_lem : (k : SignalEncoding) (c : ℕ) (a : Content) → ContentFits k a → class_of_all (symbols_of a) ≤ c → c ≤ 2
    → length (entry_bytes k c a) ≡ entry_length k c
unfolding entry_bytes entry_length
entry_length_lem (BitVector zero) c a f l h = refl
entry_length_lem (BitVector (suc w)) c happened f l h = absurd f
entry_length_lem (BitVector (suc zero)) c (symbols s) f l h = refl
entry_length_lem (BitVector (suc (suc w))) c (symbols s) f l h = length-wide (suc (suc w)) c s f.0 l h
entry_length_lem (BitVector (suc w)) c (bits b) f l h = absurd f
entry_length_lem Real c a f l h = length-le 8 _
entry_length_lem Absent c a f l h = refl

-- ---- what the code answers

pub wide-with : (w c n : ℕ) (t : Bool) → n ≡ packed_length w c → t ≡ class_byte w c → t ≡ true → 1 + n ≡ wide_length w c
wide-with w c n t e f g = rw (← f, g, e) refl

pub wide-without : (w c n : ℕ) (t : Bool) → n ≡ packed_length w c → t ≡ class_byte w c → t ≡ false → n ≡ wide_length w c
wide-without w c n t e f g = rw (← f, g, e) (sym (zero-add _))

pub length-narrow : (k : SignalEncoding) (w c : ℕ) → k ≡ BitVector w → w < 2 → w ≡ entry_length k c
unfolding entry_length
length-narrow k zero c e h = rw e refl
length-narrow k (suc zero) c e h = rw e refl
length-narrow k (suc (suc w)) c e h = absurd (omega arith)

pub length-vector : (k : SignalEncoding) (w c n : ℕ) → k ≡ BitVector w → 1 < w → n ≡ wide_length w c → n ≡ entry_length k c
unfolding entry_length
length-vector k zero c n e h q = absurd (omega arith)
length-vector k (suc zero) c n e h q = absurd (omega arith)
length-vector k (suc (suc w)) c n e h q = rw e q

pub length-real : (k : SignalEncoding) (c : ℕ) → k ≡ Real → 8 ≡ entry_length k c
unfolding entry_length
length-real k c e = rw e refl

pub length-absent : (k : SignalEncoding) (c : ℕ) → k ≡ Absent → 0 ≡ entry_length k c
unfolding entry_length
length-absent k c e = rw e refl
