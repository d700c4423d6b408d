-- By the buffer, the length of the bytes, and the kind.
use native.Mathlib.Omega.{arith}
use mathlib.Core.Path.{◌∙◌, sym}
use Rattle.value.specs.Class.{class_number}
use Rattle.entry_answer.proofs.AnswerLaws.{out-short, other_length, vector-shown, vector-length, real-length, real-shown, absent_none}
use Rattle.entry_answer.proofs.entry_value.Goals as goal

pub returns-then-out-width : goal.returns-then-out-width
returns-then-out-width c =
    let p = c in
    let a = p.args in
    out-short a.kind (class_number a.class) a.bytes.now a.out.now (omega (arith, c.width.ensures))

pub returns-then-bytes-entry_len : goal.returns-then-bytes-entry_len
returns-then-bytes-entry_len c =
    let p = c in
    let a = p.args in
    other_length a.kind (class_number a.class) a.bytes.now a.out.now (omega (arith, c.width.ensures, c.if-out-width.false))
    (λ e. c.if-bytes-entry_len.true (e ∙ sym c.entry_len.ensures))

pub vector_value-requires : goal.vector_value-requires
vector_value-requires c =
    let p = c in
    let a = p.args in
    vector-length a.kind (class_number a.class) a.bytes.now a.out.now
    (omega (arith, c.width.ensures, c.if-out-width.false))
    (c.if-bytes-entry_len.false ∙ c.entry_len.ensures) _ c.in-BitVector.is

pub get_u64-requires : goal.get_u64-requires
get_u64-requires c =
    let p = c in
    let a = p.args in
    omega (
      arith,
      real-length a.kind (class_number a.class) a.bytes.now a.out.now
          (omega (arith, c.width.ensures, c.if-out-width.false))
          (c.if-bytes-entry_len.false ∙ c.entry_len.ensures) c.in-Real.is,
    )

pub returns-in-BitVector : goal.returns-in-BitVector
returns-in-BitVector c =
    let p = c in
    let a = p.args in
    vector-shown a.kind (class_number a.class) a.bytes.now a.out.now
    (omega (
      arith,
      c.width.ensures,
      c.if-out-width.false,
    ))
    (c.if-bytes-entry_len.false ∙ c.entry_len.ensures) _ _
    c.in-BitVector.is c.vector_value.ensures

pub returns-in-Real : goal.returns-in-Real
returns-in-Real c =
    let p = c in
    let a = p.args in
    real-shown a.kind (class_number a.class) a.bytes.now a.out.now
    (omega (arith, c.width.ensures, c.if-out-width.false))
    (c.if-bytes-entry_len.false ∙ c.entry_len.ensures) _ _ c.in-Real.is
    c.get_u64.ensures c.real_entry.ensures

pub returns-in-Absent : goal.returns-in-Absent
returns-in-Absent c =
    let p = c in
    let a = p.args in
    absent_none a.kind (class_number a.class) a.bytes.now a.out.now
    (omega (arith, c.width.ensures, c.if-out-width.false))
    (c.if-bytes-entry_len.false ∙ c.entry_len.ensures) c.in-Absent.is
