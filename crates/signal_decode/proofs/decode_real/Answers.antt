-- By the kind.
use mathlib.Core.Path.{◌∙◌}
use Rattle.signal_decode.proofs.AnswerLaws.{real-vector, real-real, real-absent}
use Rattle.signal_decode.proofs.decode_real.Goals as goal

pub returns-in-BitVector : goal.returns-in-BitVector
returns-in-BitVector c = real-vector _ _ _ c.in-BitVector.is

pub returns-in-Real : goal.returns-in-Real
returns-in-Real c = c.decoded.ensures ∙ real-real _ _ c.in-Real.is

pub returns-in-Absent : goal.returns-in-Absent
returns-in-Absent c = real-absent _ _ c.in-Absent.is
