-- By the kind and the width.
use Rattle.entry.proofs.LengthLaws.{length-narrow, length-vector, length-real, length-absent}
use Rattle.value.specs.Class.{class_number}
use Rattle.entry.proofs.length.entry_len.Goals as goal

pub returns-then-width-lt2 : goal.returns-then-width-lt2
returns-then-width-lt2 c =
    let a = c.args in
    length-narrow a.kind _ (class_number a.class) c.in-BitVector.is c.if-width-lt2.true

pub returns-else-width-lt2 : goal.returns-else-width-lt2
returns-else-width-lt2 c =
    let a = c.args in
    length-vector a.kind _ (class_number a.class) _ c.in-BitVector.is c.if-width-lt2.false c.wide_len.ensures

pub returns-in-Real : goal.returns-in-Real
returns-in-Real c =
    let a = c.args in
    length-real a.kind (class_number a.class) c.in-Real.is

pub returns-in-Absent : goal.returns-in-Absent
returns-in-Absent c =
    let a = c.args in
    length-absent a.kind (class_number a.class) c.in-Absent.is
