-- The f64 of a pattern: of a NaN's the one NaN, of any other what the machine gives.
use mathlib.Core.Path.{◌∙◌, sym}
use Rattle.value.proofs.RealLaws.{above-nan, below_no_nan, zero-over-zero}
use Rattle.value.proofs.real.real_of.Goals as goal

pub returns-then-bits-gt9218868437227405312 : goal.returns-then-bits-gt9218868437227405312
returns-then-bits-gt9218868437227405312 c = zero-over-zero ∙ sym (above-nan _ c.if-bits-gt9218868437227405312.true)

pub float_from_bits-result : goal.float_from_bits-result
float_from_bits-result c = below_no_nan _ c.if-bits-gt9218868437227405312.false
