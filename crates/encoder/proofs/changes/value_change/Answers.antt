-- The signal's record is found, decided on, and stored.
use Rattle.std.proofs.Common.{refl}
use Rattle.encoder.proofs.ChangeLaws.{change-fits, change-made}
use Rattle.encoder.proofs.changes.value_change.Goals as goal

pub put_record-requires : goal.put_record-requires
put_record-requires g c = change-fits _ _ _ _ _ _ _ _ c.value_change-changed.result c.value_change-changed.ensures g.met.T.StoredRecord.laws c.find_record-kept.ensures.1

pub returns : goal.returns
returns g c =
    change-made _ _ _ _ _ _ _ _ c.value_change-changed.result c.value_change-changed.ensures g.T.StoredRecord.stands_for c.args.records.now c.put_record.new.records
    _ _ refl refl refl c.find_record-kept.ensures.0 c.put_record.ensures
