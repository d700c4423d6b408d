-- By the kind and the width.
use mathlib.Core.Path.{refl, sym, ap}
use native.Mathlib.Nat.{add-zero}
use native.Mathlib.Omega.{arith}
use lib.ListN.{length}
use Rattle.numbers.proofs.LittleEndianLaws.{length-le}
use Rattle.value.specs.Class.{class_number}
use Rattle.value.proofs.ClassLaws.{number_small}
use Rattle.entry.specs.Read.{bits_in}
use Rattle.entry.proofs.ReadThere.{reads-there}
use Rattle.entry_put.proofs.PutLaws.{event-entry, bit-entry, bit-small, real-entry, absent-entry, wide-put, WidePut}
use Rattle.entry_put.proofs.put_entry.Goals as goal
use Rattle.entry_put.proofs.put_entry.Goals.{After-states}

-- what is known of a wider vector
vector : (c : goal.After-states) →
    let a = c.args in
    WidePut a.kind c.in-BitVector.width (class_number a.class) (class_number c.states.result) a.stream.now a.change.value a.change.next
vector c =
    let p = c in
    let a = p.args in
    wide-put a.kind _ (class_number a.class) (class_number c.states.result) a.stream.now a.change.value a.change.next
    (λ j. (c.type_inv.stream j).fits) p.requires.reads.0 p.requires.reads.1 (number_small a.class)
    c.in-BitVector.is c.if-width-eq0.false c.if-width-eq1.false (ap class_number c.states.ensures)

pub returns-then-width-eq0 : goal.returns-then-width-eq0
returns-then-width-eq0 c =
    let p = c in
    let a = p.args in
    rw (event-entry a.kind (class_number a.class) _ a.stream.now a.change.value a.change.next c.in-BitVector.is c.if-width-eq0.true) (sym (add-zero a.at), refl)

pub put_bit-requires : goal.put_bit-requires
put_bit-requires c =
    let p = c in
    let a = p.args in
    let e = bit-entry a.kind (class_number a.class) _ a.stream.now a.change.value a.change.next c.in-BitVector.is c.if-width-eq1.true in
    let r = reads-there a.kind a.stream.now a.change.value a.change.next (λ j. (c.type_inv.stream j).fits) p.requires.reads.0 in
    let s = bit-small a.kind (class_number a.class) _ a.stream.now a.change.value a.change.next r.fits c.in-BitVector.is
    c.if-width-eq1.true in
    (rw c.bit.ensures s, omega (arith, ap length e, p.requires.next_in_bounds))

pub returns-then-width-eq1 : goal.returns-then-width-eq1
returns-then-width-eq1 c =
    let p = c in
    let a = p.args in
    let e = bit-entry a.kind (class_number a.class) _ a.stream.now a.change.value a.change.next
    c.in-BitVector.is c.if-width-eq1.true in
    let f = c.put_bit.ensures in
    rw e (rw c.bit.ensures at f)

pub put_wide-requires : goal.put_wide-requires
put_wide-requires c =
    let p = c in
    let a = p.args in
    let g = vector c in
    record { width_nonzero = (omega (arith, g.wide), g.class, g.there); class_in_bounds = omega (arith, g.size, p.requires.next_in_bounds) }

pub put_u64-requires : goal.put_u64-requires
put_u64-requires c =
    let p = c in
    let a = p.args in
    let e = real-entry a.kind (class_number a.class) 0 a.stream.now a.change.value a.change.next c.in-Real.is in
    omega (arith, ap length e, length-le 8 (bits_in a.change.value), p.requires.next_in_bounds)

pub returns-else-width-eq1 : goal.returns-else-width-eq1
returns-else-width-eq1 c =
    let p = c in
    let a = p.args in
    let g = vector (goal.at.returns-else-width-eq1 c).After-states in
    let f = c.put_wide.ensures in
    (rw g.size f.0, rw g.bytes f.1)

pub returns-in-Real : goal.returns-in-Real
returns-in-Real c =
    let p = c in
    let a = p.args in
    let e = real-entry a.kind (class_number a.class) 0 a.stream.now a.change.value a.change.next c.in-Real.is in
    let f = c.put_u64.ensures in
    rw (e, length-le 8 (bits_in a.change.value)) (rw c.bits.ensures at f)

pub returns-in-Absent : goal.returns-in-Absent
returns-in-Absent c =
    let p = c in
    let a = p.args in
    rw (absent-entry a.kind (class_number a.class) 0 a.stream.now a.change.value a.change.next c.in-Absent.is) (sym (add-zero a.at), refl)
