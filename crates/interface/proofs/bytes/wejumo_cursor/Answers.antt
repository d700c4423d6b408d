-- The answer as numbers.
-- Assumes nothing.
use Rattle.interface_answers.proofs.AnswerLaws.{cursor_told_lem}
use Rattle.interface.proofs.bytes.wejumo_cursor.Goals as goal

pub returns : goal.returns
returns c = cursor_told_lem _ _ _ _ c.from.ensures c.cursor.ensures
