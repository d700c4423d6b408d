-- The answer as numbers.
-- Assumes nothing.
use Rattle.interface_answers.proofs.AnswerLaws.{load_told_lem}
use Rattle.interface.proofs.bytes.wejumo_load.Goals as goal

pub returns : goal.returns
returns c = load_told_lem _ _ _ _ _ c.from.ensures c.load.ensures
