-- By the length alone.
use mathlib.Core.Path.{◌∙◌}
use Rattle.signal_decode.proofs.AnswerLaws.{event-good, event-bad}
use Rattle.signal_decode.proofs.decode_event.Goals as goal

pub returns-then-value-le1 : goal.returns-then-value-le1
returns-then-value-le1 c = c.decoded.ensures ∙ event-good c.args.value.now c.if-value-le1.true

pub returns : goal.returns
returns c = event-bad c.args.value.now c.if-value-le1.false
