-- By the kind.
use mathlib.Core.Path.{◌∙◌, sym, ap}
use Rattle.std.specs.Prelude.{Option}
use Rattle.value.specs.declared.change.BitVecChange.{BitVecChange}
use Rattle.signal.specs.Answer.{vector_answer}
use Rattle.signal_decode.proofs.AnswerLaws.{vcd-real, vcd-absent, vcd-event, vcd-vector}
use Rattle.signal_decode.proofs.decode_vcd.Goals as goal

pub returns-in-BitVector-eq0 : goal.returns-in-BitVector-eq0
returns-in-BitVector-eq0 c =
    let w = c.in-BitVector-eq0 in
    c.decode_event.ensures ∙ vcd-event _ _ _ w.is (sym w.field-0-is ∙ w.field-0-test)

pub returns-in-BitVector : goal.returns-in-BitVector
returns-in-BitVector c =
    c.decode_vector.ensures
    ∙ ap (λ (x : Option BitVecChange). vector_answer x 0) c.decode_vcd_bit_vec_change.ensures
    ∙ vcd-vector _ _ _ c.in-BitVector.is (rw c.in-BitVector.is at c.in-BitVector.width-test).1

pub returns-in-Real : goal.returns-in-Real
returns-in-Real c = vcd-real _ _ c.in-Real.is

pub returns-in-Absent : goal.returns-in-Absent
returns-in-Absent c = vcd-absent _ _ c.in-Absent.is
