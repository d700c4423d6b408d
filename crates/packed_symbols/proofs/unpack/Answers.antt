-- The symbols still to be written, written, give the final buffer: the i leftmost are taken, and `digits-next` takes one more.
use Rattle.std.proofs.Common.{◌≡◌, ◌-◌, refl, arith, add-one}
use Rattle.std.proofs.Math.Nat.{lt_of_lt_of_le, sub-zero}
use Rattle.value.specs.Class.{class_number, bits_of}
use Rattle.packed.specs.Packed.{number_of, digits, unpacked}
use Rattle.packed.proofs.PackedLaws.{digits-next, place_in}
use Rattle.packed_symbols.proofs.unpack.Goals as goal

pub loop-i-init : goal.loop-i-init
unfolding unpacked
loop-i-init c = rw sub-zero refl

pub get_bit-requires : goal.get_bit-requires
get_bit-requires c = let s = c in lt_of_lt_of_le (place_in _ (class_number s.args.states) _ (omega arith)) s.requires.1

pub loop-i-preserved : goal.loop-i-preserved
loop-i-preserved c =
    let l = c.loop-i in
    let a = c.args in
    let e = digits-next (bits_of (class_number a.states)) a.width l.i (number_of 8 a.bytes.now) (omega arith) in
    rw (add-one l.i, c.get_bit.ensures, ← l.invariant, e) refl

pub returns : goal.returns
unfolding digits
returns c =
    let l = c.loop-i in
    let e : c.args.width - l.i ≡ 0 = omega arith in
    rw e at l.invariant
