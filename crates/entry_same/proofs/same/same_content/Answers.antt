-- By the kind and the width.
use mathlib.Core.Path.{◌∙◌, ap}
use Rattle.value.specs.Class.{class_number}
use Rattle.entry.proofs.ReadThere.{packed-read}
use Rattle.entry_same.proofs.SameLaws.{event-repeats, bit-repeats, real-repeats, absent-repeats, wide-repeats}
use Rattle.entry_same.proofs.same.same_content.Goals as goal

pub returns-then-width-eq0 : goal.returns-then-width-eq0
returns-then-width-eq0 c =
    let p = c in
    let a = p.args in
    event-repeats a.kind _ a.image.now a.kept.value a.kept.next a.image.now a.change.value a.change.next c.in-BitVector.is c.if-width-eq0.true

pub returns-then-width-eq1 : goal.returns-then-width-eq1
returns-then-width-eq1 c =
    let p = c in
    let a = p.args in
    bit-repeats a.kind _ a.image.now a.kept.value a.kept.next a.image.now a.change.value a.change.next _ _
    c.in-BitVector.is c.if-width-eq1.true c.bit.ensures
    c.bit-then-width-eq1.ensures

pub same_wide-requires : goal.same_wide-requires
same_wide-requires c =
    let p = c in
    let a = p.args in (
      packed-read a.kind _ _ a.image.now a.kept.value a.kept.next (λ j. (c.type_inv.image j).fits)
          p.requires.0 c.in-BitVector.is c.if-width-eq0.false c.if-width-eq1.false
          (ap class_number c.states.ensures),
      packed-read a.kind _ _ a.image.now a.change.value a.change.next (λ j. (c.type_inv.image j).fits)
          p.requires.1 c.in-BitVector.is c.if-width-eq0.false c.if-width-eq1.false
          (ap class_number c.states-in-BitVector.ensures),
    )

pub returns-else-width-eq1 : goal.returns-else-width-eq1
returns-else-width-eq1 c =
    let p = c in
    let a = p.args in
    c.same_wide.ensures
    ∙ wide-repeats a.kind _ _ _ a.image.now a.kept.value a.kept.next a.image.now a.change.value a.change.next c.in-BitVector.is
    c.if-width-eq0.false c.if-width-eq1.false (ap class_number c.states.ensures)
    (ap class_number c.states-in-BitVector.ensures)

pub returns-in-Real : goal.returns-in-Real
returns-in-Real c =
    let p = c in
    let a = p.args in
    real-repeats a.kind 0 a.image.now a.kept.value a.kept.next a.image.now a.change.value a.change.next _ _ c.in-Real.is c.bits.ensures c.bits-in-Real.ensures

pub returns-in-Absent : goal.returns-in-Absent
returns-in-Absent c =
    let p = c in
    let a = p.args in
    absent-repeats a.kind 0 a.image.now a.kept.value a.kept.next a.image.now a.change.value a.change.next c.in-Absent.is
