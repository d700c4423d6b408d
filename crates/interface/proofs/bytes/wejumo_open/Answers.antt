-- By what the opener says.
-- Assumes nothing.
use Rattle.std.proofs.Common.{sym, refl, ◌∙◌}
use Rattle.interface.proofs.bytes.wejumo_open.Goals as goal

pub returns-then-open : goal.returns-then-open
returns-then-open c = rw (sym c.open.ensures ∙ c.if-open.true) refl

pub returns-else-open : goal.returns-else-open
returns-else-open c = rw (sym c.open.ensures ∙ c.if-open.false) refl
