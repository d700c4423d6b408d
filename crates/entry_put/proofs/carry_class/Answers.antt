-- The class stands in the two top bits.
use mathlib.Core.Path.{refl}
use Rattle.entry_put.proofs.carry_class.Goals as goal

pub returns : goal.returns
returns c = rw c.number.ensures refl
