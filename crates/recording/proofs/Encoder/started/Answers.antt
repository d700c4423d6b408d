-- `started` meets its contract: the head's size has 32 bits.
-- Assumes nothing.
use mathlib.Core.Path.{refl}
use borrow.Author.Rules.{rules}
use Rattle.recording.proofs.Encoder.started.Goals as goal

pub overflow_cast-image : goal.overflow_cast-image
overflow_cast-image c = let e = c.head_size-image.ensures in search rules

pub returns : goal.returns
returns c = rw (c.none.ensures, c.head_size-image.ensures) refl
