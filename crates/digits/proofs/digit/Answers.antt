use Rattle.std.proofs.Common.{arith}
use Rattle.digits.proofs.NumberLaws.{digit-some}
use Rattle.digits.proofs.digit.Goals as goal

pub returns : goal.returns
returns c = digit-some c.to_digit.result 16 c.args.b (omega arith) (rw c.from.ensures at c.to_digit.ensures.value)
