use native.Mathlib.Omega.{arith}
use Rattle.ascii.proofs.PutLaws.{puts_one}
use Rattle.ascii.proofs.write.put_digit.Goals as goal

pub bounds-out-at : goal.bounds-out-at
bounds-out-at c = let p = c.requires.1.inside in omega arith

pub overflow_add-result : goal.overflow_add-result
overflow_add-result c = let p = c.requires.1.inside in omega arith

pub returns : goal.returns
returns c = puts_one c.digit.ensures
