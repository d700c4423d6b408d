-- The answer as numbers.
-- Assumes nothing.
use Rattle.interface_answers.proofs.AnswerLaws.{table-told}
use Rattle.interface.proofs.bytes.wejumo_table.Goals as goal

pub returns : goal.returns
returns c = table-told _ _ _ _ c.from.ensures c.table.ensures
