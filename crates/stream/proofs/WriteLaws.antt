-- Writing: two runs of bytes one after the other, and how large a change is.
-- Assumes nothing.
use Prim.Native.Nat.{ℕ, suc, zero, ◌+◌, ◌*◌, ◌≤◌, ◌<◌, ◌^◌}
use mathlib.Core.Path.{◌≡◌, refl, sym, ap}
use mathlib.Core.List.{List, ◌++◌}
use native.Mathlib.Omega.{arith}
use lib.ListN.{length, length-append}
use lib.Seq.{sets, length-sets}
use Rattle.lists.proofs.SetsLaws.{sets-append}
use Rattle.numbers.specs.Leb128.{leb_of}
use Rattle.value.specs.Class.{class_number, class_of_all}
use Rattle.value.specs.declared.states.States.{States}
use Rattle.value.specs.declared.states.States.TheVariants.{Two, Four, Nine}
use Rattle.packed.specs.Packed.{packed, packed_length}
use Rattle.signal.specs.Content.{symbols}
use Rattle.signal.specs.declared.kind.SignalEncoding.TheVariants.{BitVector}
use Rattle.stream.specs.Stream.{change_bytes}

-- a run of bytes after another
pub two-writes : (a b old mid new : List ℕ) (at p q : ℕ) → p ≡ at + length a → mid ≡ sets old at a → q ≡ p + length b → new ≡ sets mid p b
    → (q ≡ at + length (a ++ b)) × (new ≡ sets old at (a ++ b))
two-writes a b old mid new at p q e f g h =
    (omega (arith, length-append a b), rw (h, e, f) (sym (sets-append a b old at)))

-- a packed value is small
pub packed-small : (w : ℕ) (c : States) → w < 2 ^ 32 → packed_length w (class_number c) < 4294967296
packed-small w Two h = omega arith
packed-small w Four h = omega arith
packed-small w Nine h = omega arith

-- the bytes of a vector's change, in two runs
pub wide-bytes : (w d : ℕ) (s : List ℕ) → 1 < w → change_bytes (BitVector w) d (symbols s) ≡ leb_of (d * 4 + class_of_all s) ++ packed (class_of_all s) s
unfolding change_bytes
wide-bytes zero d s h = absurd (omega arith)
wide-bytes (suc zero) d s h = absurd (omega arith)
wide-bytes (suc (suc w)) d s h = refl

-- room for the whole is room for its parts
pub room-front : (a b : List ℕ) (at n : ℕ) → at + length (a ++ b) ≤ n → at + length a ≤ n
room-front a b at n h = omega (arith, length-append a b)

pub room_back : (a b old mid : List ℕ) (at p m : ℕ) → at + length (a ++ b) ≤ length old → p ≡ at + length a → mid ≡ sets old at a → m ≡ length b → p + m ≤ length mid
room_back a b old mid at p m h e f g = omega (arith, length-append a b, length-sets old at a, ap length f)
