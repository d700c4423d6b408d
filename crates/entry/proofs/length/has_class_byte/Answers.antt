-- By the class.
use mathlib.Core.Path.{refl}
use Rattle.entry.proofs.length.has_class_byte.Goals as goal

pub returns-in-Two : goal.returns-in-Two
returns-in-Two c = rw c.in-Two.is refl

pub returns-in-Four : goal.returns-in-Four
returns-in-Four c = rw c.in-Four.is refl

pub returns-in-Nine : goal.returns-in-Nine
returns-in-Nine c = rw c.in-Nine.is refl
