-- By the width.
use native.Mathlib.Omega.{arith}
use mathlib.Core.Path.{ap, ◌∙◌}
use Rattle.value.specs.Class.{class_number}
use Rattle.entry_answer.specs.Answer.{shown}
use Rattle.entry_answer.proofs.AnswerLaws.{event-shown, bit-held, bit_length, wide-length}
use Rattle.entry_answer.proofs.vector_value.Goals as goal

pub returns-then-width-eq0 : goal.returns-then-width-eq0
returns-then-width-eq0 c =
    let p = c in
    let a = p.args in
    event-shown a.width (class_number a.class) a.bytes.now a.out.now _ c.if-width-eq0.true (ap shown c.event_entry.ensures.0)

pub bounds-bytes-0 : goal.bounds-bytes-0
bounds-bytes-0 c =
    let p = c in
    let a = p.args in
    omega (arith, p.requires.0, bit_length a.width (class_number a.class) c.if-width-eq1.true)

pub returns-then-width-eq1 : goal.returns-then-width-eq1
returns-then-width-eq1 c =
    let p = c in
    let a = p.args in
    bit-held a.width (class_number a.class) a.bytes.now a.out.now _ c.if-width-eq1.true c.bit_value.ensures

pub wide_value-requires : goal.wide_value-requires
wide_value-requires c =
    let p = c in
    let a = p.args in
    (omega arith, p.requires.0 ∙ wide-length a.width (class_number a.class) c.if-width-eq0.false c.if-width-eq1.false, p.requires.1)
