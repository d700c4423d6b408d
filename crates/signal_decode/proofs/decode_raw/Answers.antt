-- By the kind.
use mathlib.Core.Path.{◌∙◌, sym, ap}
use Rattle.value.specs.Class.{class_number}
use Rattle.std.specs.Prelude.{Option}
use Rattle.value.specs.declared.change.BitVecChange.{BitVecChange}
use Rattle.signal.specs.Answer.{vector_answer}
use Rattle.signal_decode.proofs.AnswerLaws.{raw-real, raw-absent, raw-event, raw-vector}
use Rattle.signal_decode.proofs.decode_raw.Goals as goal

pub returns-in-BitVector-eq0 : goal.returns-in-BitVector-eq0
returns-in-BitVector-eq0 c =
    let w = c.in-BitVector-eq0 in
    raw-event _ _ _ _ w.is (sym w.field-0-is ∙ w.field-0-test)

pub returns-in-BitVector : goal.returns-in-BitVector
returns-in-BitVector c =
    c.decode_vector.ensures
    ∙ ap (λ (x : Option BitVecChange). vector_answer x (class_number c.from_number-states.result)) c.decode_raw_change.ensures
    ∙ raw-vector _ _ _ _ _ c.in-BitVector.is (rw c.in-BitVector.is at c.in-BitVector.width-test).1 c.from_number-states.ensures

pub returns-in-Real : goal.returns-in-Real
returns-in-Real c = raw-real _ _ _ c.in-Real.is

pub returns-in-Absent : goal.returns-in-Absent
returns-in-Absent c = raw-absent _ _ _ c.in-Absent.is
