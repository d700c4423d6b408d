-- By the class.
use mathlib.Core.Path.{refl}
use Rattle.entry_answer.proofs.class_in.Goals as goal

pub returns-in-Four : goal.returns-in-Four
returns-in-Four c = rw c.in-Four.is refl

pub returns-in-Nine : goal.returns-in-Nine
returns-in-Nine c = rw c.in-Nine.is refl
