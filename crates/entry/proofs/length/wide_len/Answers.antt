-- The packed bytes, and the class byte where there is one.
use Rattle.entry.proofs.LengthLaws.{wide-with, wide-without}
use native.Mathlib.Omega.{arith}
use Rattle.value.specs.Class.{class_number}
use Rattle.stream.proofs.WriteLaws.{packed-small}
use Rattle.entry.proofs.length.wide_len.Goals as goal

pub overflow_add-result : goal.overflow_add-result
overflow_add-result c =
    let a = c.args in
    omega (arith, packed-small a.width a.class (omega arith))

pub returns-then-has_class_byte : goal.returns-then-has_class_byte
returns-then-has_class_byte c =
    let a = c.args in
    wide-with a.width (class_number a.class) _ _ c.bytes_required-size.ensures c.has_class_byte.ensures c.if-has_class_byte.true

pub returns : goal.returns
returns c =
    let a = c.args in
    wide-without a.width (class_number a.class) _ _ c.bytes_required-size.ensures c.has_class_byte.ensures c.if-has_class_byte.false
