-- What is stored stands for the record.
use Rattle.std.proofs.Common.{ap, set, map, ◌∙◌}
use Rattle.std.proofs.lemmas.List.{map-set}
use Rattle.records.proofs.put_record.Goals as goal

pub returns-then-at-records : goal.returns-then-at-records
returns-then-at-records g c =
    let stands_for = g.T.StoredRecord.stands_for in
    let xs = c.args.records.now in
    rw (c.place_of-at.ensures) (map-set stands_for xs _ _ ∙ ap (set (map stands_for xs) c.args.signal.0) c.store.ensures)
