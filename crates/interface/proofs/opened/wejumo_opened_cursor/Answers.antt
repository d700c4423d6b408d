-- The answer as numbers; accepted bytes are answered alike with and without opening.
-- Assumes nothing.
use Rattle.std.proofs.Common.{sym, ◌∙◌}
use Rattle.walk.proofs.OpenLaws.{cursor-opened}
use Rattle.interface_answers.proofs.AnswerLaws.{cursor_told_lem}
use Rattle.interface.proofs.opened.wejumo_opened_cursor.Goals as goal

pub returns : goal.returns
returns c =
    let a = c.args in
    cursor_told_lem _ _ _ _ c.from.ensures
    (c.cursor_in.ensures
    ∙ sym (cursor-opened a.image.now a.signal a.time a.out.now c.requires))
