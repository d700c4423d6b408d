-- By the kind and the width.
use mathlib.Core.Path.{ap}
use native.Mathlib.Omega.{arith}
use Rattle.value.specs.Class.{class_number}
use Rattle.signal.specs.Kind.{width_of}
use Rattle.entry.proofs.ReadThere.{packed-read}
use Rattle.cursor.proofs.ShownLaws.{event-shows, real-shows, shows_same, content-event, content-bit, content-wide, content-real, content-absent}
use Rattle.cursor.proofs.shown.value_at.Goals as goal

pub returns-then-width-eq0 : goal.returns-then-width-eq0
returns-then-width-eq0 c =
    let a = c.args in
    shows_same c.event_entry.result a.out.now _ _ _
    (content-event a.kind a.image.now a.change.value a.change.next _ c.in-BitVector.is c.if-width-eq0.true)
    (event-shows a.out.now c.event_entry.result c.event_entry.ensures.0 c.event_entry.ensures.1)

pub bit_entry-requires : goal.bit_entry-requires
bit_entry-requires c =
    let p = c in
    omega (arith, ap width_of c.in-BitVector.is, c.if-width-eq1.true, p.requires.1)

pub returns-then-width-eq1 : goal.returns-then-width-eq1
returns-then-width-eq1 c =
    let a = c.args in
    shows_same c.bit_entry.result a.out.now _ _ _
    (content-bit a.kind a.image.now a.change.value a.change.next _ _ c.in-BitVector.is
    c.if-width-eq1.true c.bit.ensures) c.bit_entry.ensures

pub wide_entry-requires : goal.wide_entry-requires
wide_entry-requires c =
    let p = c in
    let a = p.args in (
      packed-read a.kind _ (class_number c.states.result) a.image.now a.change.value a.change.next
          (λ j. (c.type_inv.image j).fits) p.requires.0
          c.in-BitVector.is c.if-width-eq0.false c.if-width-eq1.false
          (ap class_number c.states.ensures),
      omega (arith, ap width_of c.in-BitVector.is, p.requires.1),
    )

pub returns-else-width-eq1 : goal.returns-else-width-eq1
returns-else-width-eq1 c =
    let a = c.args in
    shows_same c.wide_entry.result a.out.now _ _ _
    (content-wide a.kind a.image.now a.change.value a.change.next _ c.states.result
    c.in-BitVector.is c.if-width-eq0.false
    c.if-width-eq1.false c.states.ensures) c.wide_entry.ensures

pub returns-in-Real : goal.returns-in-Real
returns-in-Real c =
    let a = c.args in
    shows_same c.real_entry.result a.out.now _ _ _
    (content-real a.kind a.image.now a.change.value a.change.next _ c.in-Real.is c.bits.ensures)
    (real-shows a.out.now _ c.real_entry.result c.real_entry.ensures)

pub returns-in-Absent : goal.returns-in-Absent
returns-in-Absent c =
    let a = c.args in
    shows_same c.event_entry-in-Absent.result a.out.now _ _ _ (content-absent a.kind a.image.now a.change.value a.change.next c.in-Absent.is)
    (event-shows a.out.now c.event_entry-in-Absent.result c.event_entry-in-Absent.ensures.0 c.event_entry-in-Absent.ensures.1)
