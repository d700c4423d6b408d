-- Every number of 64 bits is a storable record.
use Rattle.storage.proofs.StorageLaws.{stored}
use Rattle.storage.proofs.U64StoredRecord.load.Goals as goal

pub returns : goal.returns
returns c = let e = c.record_from.ensures in (e, rw e (stored c.args.self c.ranges.self.fits))
