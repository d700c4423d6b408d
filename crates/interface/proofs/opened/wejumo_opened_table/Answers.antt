-- The answer as numbers; accepted bytes are answered alike with and without opening.
-- Assumes nothing.
use Rattle.std.proofs.Common.{sym, ◌∙◌}
use Rattle.walk.proofs.OpenLaws.{table-opened}
use Rattle.interface_answers.proofs.AnswerLaws.{table-told}
use Rattle.interface.proofs.opened.wejumo_opened_table.Goals as goal

pub returns : goal.returns
returns c =
    let a = c.args in
    table-told _ _ _ _ c.from.ensures
    (c.table_in.ensures ∙ sym (table-opened a.image.now a.out.now c.requires))
