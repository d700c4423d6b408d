-- By the kind.
use mathlib.Core.Path.{◌∙◌, sym}
use Rattle.stream.proofs.ReadLaws.{kind-event, kind-bit, kind-wide, kind-real, kind-absent}
use Rattle.stream_read.proofs.read_value.Goals as goal

pub returns-in-BitVector-eq0 : goal.returns-in-BitVector-eq0
returns-in-BitVector-eq0 c =
    let a = c.args in
    let w = c.in-BitVector-eq0 in
    c.in_range.ensures ∙ kind-event a.kind a.s.now a.at a.v c.requires _ w.is (sym w.field-0-is ∙ w.field-0-test)

pub returns-in-BitVector-eq1 : goal.returns-in-BitVector-eq1
returns-in-BitVector-eq1 c =
    let a = c.args in
    let w = c.in-BitVector-eq1 in
    c.read_bit.ensures ∙ kind-bit a.kind a.s.now a.at a.v c.requires _ w.is (sym w.field-0-is ∙ w.field-0-test)

pub returns-in-BitVector : goal.returns-in-BitVector
returns-in-BitVector c =
    let a = c.args in
    let w = c.in-BitVector in
    let t = rw w.is at w.width-test in
    c.read_wide.ensures ∙ kind-wide a.kind a.s.now a.at a.v c.requires _ w.is t.0.1 t.1

pub returns-in-Real : goal.returns-in-Real
returns-in-Real c =
    let a = c.args in
    c.read_real.ensures ∙ kind-real a.kind a.s.now a.at a.v c.requires c.in-Real.is

pub returns-in-Absent : goal.returns-in-Absent
returns-in-Absent c =
    let a = c.args in
    kind-absent a.kind a.s.now a.at a.v c.requires c.in-Absent.is
