-- The answer as numbers.
-- Assumes nothing.
use Rattle.interface_answers.proofs.AnswerLaws.{join-told}
use Rattle.interface.proofs.bytes.wejumo_join.Goals as goal

pub returns : goal.returns
returns c = join-told _ _ _ _ c.from.ensures c.join.ensures
