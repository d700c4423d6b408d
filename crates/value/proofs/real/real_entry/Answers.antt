use mathlib.Core.Path.{refl}
use Rattle.value.proofs.real.real_entry.Goals as goal

pub returns : goal.returns
returns c = rw c.real_of.ensures refl
