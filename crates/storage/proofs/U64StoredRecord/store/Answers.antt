-- A record's number stands for it.
use Rattle.std.proofs.Common.{ap, ◌∙◌}
use Rattle.storage.specs.Storage.{record_from}
use Rattle.storage.proofs.StorageLaws.{record-number}
use Rattle.storage.proofs.U64StoredRecord.store.Goals as goal

pub returns : goal.returns
returns c = ap record_from c.number_from.ensures ∙ record-number _ c.requires
