-- Laws of a value's change by its notation: its bytes, their length, and its record in the work buffer.
-- Assumes nothing.
use Prim.Native.Nat.{ℕ, ◌+◌}
use mathlib.Core.Path.{◌≡◌, refl, ◌∙◌}
use mathlib.Core.List.{List, ◌++◌, append_assoc}
use native.Mathlib.Omega.{arith}
use lib.ListN.{length, length-append}
use lib.Seq.{sets}
use Rattle.lists.proofs.SetsLaws.{sets-append}
use Rattle.numbers.specs.Leb128.{leb_of}
use Rattle.numbers.specs.LittleEndian.{le}
use Rattle.numbers.proofs.LittleEndianLaws.{length-le}
use Rattle.signal.specs.declared.kind.SignalEncoding.{SignalEncoding}
use Rattle.signal.specs.declared.kind.SignalEncoding.TheVariants.{BitVector, Real, Absent}
use Rattle.signal.specs.declared.decode.ChangeValue.{ChangeValue}
use Rattle.signal.specs.declared.decode.ChangeValue.TheVariants as signal
use Rattle.signal.specs.Kind.{width_of}
use Rattle.signal.specs.Content.{Given, vcd, raw, real, decode}
use Rattle.signal.proofs.DecodeLaws.{same-change}
use Rattle.stream.specs.Stream.{change_bytes}
use Rattle.stream.specs.Answer.{change_length, Says, said_bytes}
use Rattle.stream.proofs.LengthLaws.{says-length}
use Rattle.recording.specs.Work.{item, item_bytes}

-- a record's head and its stream bytes, written one after the other
pub item-written : (w w₁ w₂ : List ℕ) (at g n : ℕ) (b : List ℕ) → n ≡ length b → w₁ ≡ sets w at (le 4 g ++ le 4 n) → w₂ ≡ sets w₁ (at + 8) b
    → w₂ ≡ sets w at (item_bytes (item g b))
item-written w w₁ w₂ at g n b e h i =
    i ∙ rw (
      h,
      e,
      ← (append_assoc (le 4 g) (le 4 (length b)) b),
      sets-append (le 4 g ++ le 4 (length b)) b w at,
      length-append (le 4 g) (le 4 (length b)),
      length-le 4 g,
      length-le 4 (length b),
    ) refl

-- the length of a value's change, known from decoding's answer
pub given-length : (k : SignalEncoding) (d : ℕ) (x : Given) (v : ChangeValue) → Says k x v → length (said_bytes k d x) ≡ change_length (width_of k) d v
unfolding decode change_bytes
given-length k d (vcd s) v h = says-length k d (vcd s) v tt h
given-length k d (raw c s) v h = says-length k d (raw c s) v tt h
given-length (BitVector w) d (real b) v (t, e) = let z : ◌≡◌ {A = ℕ} 0 1 = cc in absurd (omega arith)
given-length Real d (real b) v (t, e) = let q : signal.Real b ≡ v = same-change e in rw (← q, length-append (leb_of d) (le 8 b), length-le 8 b) refl
given-length Absent d (real b) v (t, e) = let z : ◌≡◌ {A = ℕ} 0 1 = cc in absurd (omega arith)
