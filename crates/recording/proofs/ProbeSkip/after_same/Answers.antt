-- `after_same` meets its contract: by the edition.
-- Assumes nothing.
use mathlib.Core.Path.{refl}
use borrow.Author.Tests.{eq-eqb, ne_eqb}
use Rattle.recording.specs.State.{skip_same}
use Rattle.recording.proofs.ProbeSkip.after_same.Goals as goal

pub returns-then-edition-eq-EDITION_2 : goal.returns-then-edition-eq-EDITION_2
unfolding skip_same
returns-then-edition-eq-EDITION_2 c = rw (c.ended.ensures, eq-eqb _ _ c.if-edition-eq-EDITION_2.true) refl

pub returns-else-edition-eq-EDITION_2 : goal.returns-else-edition-eq-EDITION_2
unfolding skip_same
returns-else-edition-eq-EDITION_2 c = rw (ne_eqb _ _ c.if-edition-eq-EDITION_2.false) refl
