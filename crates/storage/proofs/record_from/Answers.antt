-- `storage::record_from` meets its contract: it computes what `record_from` says.
-- Assumes nothing.
use mathlib.Core.Path.{refl}
use Rattle.storage.specs.Storage.{record_from}
use Rattle.storage.proofs.record_from.Goals as goal

pub returns : goal.returns
unfolding record_from
returns c = rw (c.kind_from-kind.ensures, c.from_number-top.ensures) refl
