-- `of` meets its contract: by the sender.
-- Assumes nothing.
use mathlib.Core.Path.{refl}
use borrow.Author.Tests.{eq-eqb, ne_eqb}
use Rattle.recording.specs.State.{skip_of}
use Rattle.recording.proofs.Skips.of.Goals as goal

pub returns-then-sender-eq0 : goal.returns-then-sender-eq0
unfolding skip_of
returns-then-sender-eq0 c = rw (eq-eqb _ _ c.if-sender-eq0.true) refl

pub returns-else-sender-eq0 : goal.returns-else-sender-eq0
unfolding skip_of
returns-else-sender-eq0 c = rw (ne_eqb _ _ c.if-sender-eq0.false) refl
