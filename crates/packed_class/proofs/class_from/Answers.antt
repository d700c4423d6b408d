-- The largest class so far with that of the bytes still to come gives that of all: one byte more by `class-turn`.
use Rattle.std.proofs.Common.{◌≡◌, ◌+◌, ◌-◌, ◌<◌, length, drop, arith, length-take, length-drop, get_or-take, get_or-drop, sym, ◌∙◌}
use Rattle.std.proofs.Math.Nat.{max-zero, zero-mul}
use Rattle.value.specs.Class.{class_number, largest_class}
use Rattle.packed.specs.Packed.{digits}
use Rattle.packed_class.proofs.ByteLaws.{class-turn}
use Rattle.packed_class.proofs.class_from.Goals as goal

pub loop-byte-preserved : goal.loop-byte-preserved
loop-byte-preserved c =
    let l = c.loop-byte in
    let a = c.args in
    let s = a.bytes.now in
    let n = length-drop a.from s in
    let m = length-take (length s - a.from) (drop a.from s) in
    let at = l.byte-index in
    let h : a.from + at < length s = omega (arith, c.loop-byte-test.true) in
    let turn = class-turn (class_number a.states) (a.from + at) s (λ j. (c.type_inv.bytes j).fits) h in
    let e : a.from + (at + 1) ≡ a.from + at + 1 = omega arith in
    let g = get_or-take (length s - a.from) (drop a.from s) at 0 (omega arith) ∙ get_or-drop a.from s at 0 in
    rw e (omega (arith, turn, c.max-class.ensures, rw g at c.class_in.ensures, l.invariant))

pub returns : goal.returns
unfolding digits largest_class
returns c =
    let l = c.loop-byte in
    let a = c.args in
    let s = a.bytes.now in
    let n = length-drop a.from s in
    let m = length-take (length s - a.from) (drop a.from s) in
    let e : length s - (a.from + l.byte-index) ≡ 0 = omega (arith, c.loop-byte-test.false) in
    sym (max-zero l.class) ∙ (rw (e, zero-mul) at l.invariant)
