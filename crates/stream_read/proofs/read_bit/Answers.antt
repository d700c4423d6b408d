-- By the test of the symbol.
use mathlib.Core.Path.{◌∙◌}
use Rattle.stream.proofs.ReadLaws.{bit-over, bit_in}
use Rattle.stream_read.proofs.read_bit.Goals as goal

pub returns-then-v-gt8 : goal.returns-then-v-gt8
returns-then-v-gt8 c = bit-over _ _ c.if-v-gt8.true

pub returns : goal.returns
returns c = c.in_range.ensures ∙ bit_in _ _ c.if-v-gt8.false
