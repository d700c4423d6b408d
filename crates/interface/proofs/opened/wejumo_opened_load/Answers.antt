-- The answer as numbers; accepted bytes are answered alike with and without opening.
-- Assumes nothing.
use Rattle.std.proofs.Common.{sym, ◌∙◌}
use Rattle.walk.proofs.OpenLaws.{load-opened}
use Rattle.interface_answers.proofs.AnswerLaws.{load_told_lem}
use Rattle.interface.proofs.opened.wejumo_opened_load.Goals as goal

pub returns : goal.returns
returns c =
    let p = c in let a = p.args in
    load_told_lem _ _ _ _ _ c.from.ensures
    (c.load_in.ensures ∙ sym (load-opened a.image.now a.signal a.index.now a.bytes.now p.requires))
