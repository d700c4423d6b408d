-- The length of a change, from what the code knows of its value, is that of its bytes.
-- Assumes nothing.
use Prim.Native.Nat.{ℕ, zero, suc, ◌+◌, ◌*◌}
use mathlib.Core.Path.{◌≡◌, refl, sym, ap, ◌∙◌}
use native.Mathlib.Nat.{add-zero}
use native.Mathlib.Omega.{arith}
use lib.ListN.{length, get_or, length-append}
use Rattle.numbers.specs.Leb128.{leb_of}
use Rattle.numbers.specs.LittleEndian.{le}
use Rattle.numbers.proofs.LittleEndianLaws.{length-le}
use Rattle.value.specs.Class.{class_of_all}
use Rattle.value.proofs.ClassLaws.{number-states, class-all-small}
use Rattle.packed.specs.Packed.{packed, packed_length}
use Rattle.packed.proofs.PackedLaws.{length-packed}
use Rattle.signal.specs.Kind.{width_of}
use Rattle.signal.specs.Content.{Content, happened, symbols, bits, ContentFits, Given, GivenFits, Decoded, refuse, accept, content_of, decode}
use Rattle.signal.specs.Answer.{decoded_to, value_of, decoded_as}
use Rattle.signal.specs.declared.kind.SignalEncoding.{SignalEncoding}
use Rattle.signal.specs.declared.kind.SignalEncoding.TheVariants.{BitVector, Real, Absent}
use Rattle.signal.specs.declared.decode.ChangeValue.{ChangeValue}
use Rattle.signal.proofs.DecodeLaws.{accepted, same-change}
use Rattle.stream.specs.Stream.{change_bytes}
use Rattle.stream.specs.Answer.{change_length, Says, said_bytes}

pub change-length : (k : SignalEncoding) (d : ℕ) (c : Content) → ContentFits k c → length (change_bytes k d c) ≡ change_length (width_of k) d (value_of k c)
change-length (BitVector zero) d happened f = unfold change_bytes in sym (add-zero (length (leb_of d)))
change-length (BitVector zero) d (symbols s) f = absurd f
change-length (BitVector zero) d (bits b) f = absurd f
change-length (BitVector (suc w)) d happened f = absurd f
change-length (BitVector (suc zero)) d (symbols s) f = unfold change_bytes in sym (add-zero (length (leb_of (d * 16 + get_or s 0 0))))
change-length (BitVector (suc (suc w))) d (symbols s) f =
    unfold change_bytes in
    (length-append (leb_of (d * 4 + class_of_all s)) (packed (class_of_all s) s)
    ∙ ap (λ (n : ℕ). length (leb_of (d * 4 + class_of_all s)) + n) (length-packed (class_of_all s) s ∙ ap (λ (v : ℕ). packed_length v (class_of_all s)) f.0)
    ∙ ap (λ (c : ℕ). length (leb_of (d * 4 + c)) + packed_length (suc (suc w)) c) (sym (number-states (class_of_all s) (class-all-small s))))
change-length (BitVector (suc w)) d (bits b) f = absurd f
change-length Real d happened f = absurd f
change-length Real d (symbols s) f = absurd f
change-length Real d (bits b) f = unfold change_bytes in (length-append (leb_of d) (le 8 b) ∙ ap (λ (n : ℕ). length (leb_of d) + n) (length-le 8 b))
change-length Absent d c f = absurd f

-- the length of what was given, known from the answer
pub says-length : (k : SignalEncoding) (d : ℕ) (g : Given) (v : ChangeValue) → GivenFits g → Says k g v
    → length (said_bytes k d g) ≡ change_length (width_of k) d v
says-length k d g v f (t, e) = by (decode k g) refl e
  where
    by : (x : Decoded) → decode k g ≡ x → decoded_as k x ≡ decoded_to v t → length (change_bytes k d (content_of x)) ≡ change_length (width_of k) d v
    by (refuse n) q e = let z : ◌≡◌ {A = ℕ} 0 1 = cc in absurd (omega arith)
    by (accept c u) q e =
        let same = same-change e in
        change-length k d c (accepted k g c u f q).fits ∙ ap (change_length (width_of k) d) same
