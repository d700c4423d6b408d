-- By the class that the entry carries.
use native.Mathlib.Omega.{arith}
use Rattle.value.specs.Class.{class_number}
use Rattle.value.proofs.ClassLaws.{number_small}
use Rattle.entry.proofs.WideLaws.{wide-some}
use Rattle.entry_answer.proofs.AnswerLaws.{wide-over, own-inside, part-inside, wide-shown}
use Rattle.entry_answer.proofs.wide_value.Goals as goal

pub class_in-own-requires : goal.class_in-own-requires
class_in-own-requires c =
    let p = c in
    let a = p.args in
    omega (arith, wide-some a.width (class_number a.class) (omega arith), p.requires.1)

pub returns-then-number-own : goal.returns-then-number-own
returns-then-number-own c =
    let p = c in
    let a = p.args in
    wide-over a.width (class_number a.class) _ _ a.bytes.now a.out.now p.requires.0 c.class_in-own.ensures c.number.ensures c.if-number-own.true

pub raw_part-requires : goal.raw_part-requires
raw_part-requires c =
    let p = c in
    let a = p.args in
    own-inside a.width (class_number a.class) _ _ a.bytes.now a.out.now p.requires.0 c.class_in-own.ensures
    c.number.ensures _ _ c.if-number-own.false (number_small a.class) (rw c.from.ensures at c.from_number-states.ensures) c.bytes_required.ensures
    p.requires.1

pub packed_value-requires : goal.packed_value-requires
packed_value-requires c =
    let p = c in
    let a = p.args in (
      p.requires.2,
      part-inside a.width (class_number a.class) _ _ a.bytes.now a.out.now p.requires.0
          c.class_in-own.ensures c.number.ensures _ _
          c.if-number-own.false (number_small a.class) (rw c.from.ensures at c.from_number-states.ensures) c.bytes_required.ensures _
          p.requires.1 c.raw_part.ensures,
    )

pub returns : goal.returns
returns c =
    let p = c in
    let a = p.args in
    wide-shown a.width (class_number a.class) _ _ a.bytes.now a.out.now p.requires.0
    c.class_in-own.ensures
    c.number.ensures _ _ c.if-number-own.false
    (number_small a.class) (rw c.from.ensures at c.from_number-states.ensures) c.bytes_required.ensures _ _
    c.raw_part.ensures c.packed_value.ensures
