-- The kind's number.
-- Assumes nothing.
use Rattle.std.proofs.Common.{ap, ◌∙◌}
use Rattle.image.specs.Head.{kind_number}
use Rattle.interface.proofs.opened.wejumo_opened_kind.Goals as goal

pub returns : goal.returns
returns c = c.kind_number.ensures ∙ ap kind_number c.kind_at.ensures
