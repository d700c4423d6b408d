-- `storage::number_from` meets its contract: it computes what `number_from` says.
-- Assumes nothing.
use Rattle.storage.specs.Storage.{number_from}
use borrow.Author.Rules.{rules}
use Rattle.storage.proofs.number_from.Goals as goal

pub returns : goal.returns
unfolding number_from
returns c = search rules
