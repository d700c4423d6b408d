-- The head is written, then the kinds: together they are the step (plan/proofs/BeginLaws).
use Rattle.std.proofs.Common.{◌∙◌, refl, [], map, length}
use Rattle.std.proofs.lemmas.List.{length-map}
use Rattle.recording.specs.Memory.{memory}
use Rattle.plan.proofs.BeginLaws.{begin-fits, start-carried}
use Rattle.encoder.proofs.StepLaws.{start-fits, start-left}
use Rattle.encoder.proofs.start.start.Goals as goal

pub start_records-requires : goal.start_records-requires
start_records-requires g c =
    let a = c.args in
    let xs = a.records.now in
    let stands_for = g.T.StoredRecord.stands_for in
    let rs = map stands_for xs in
    let b = rw (← length-map xs stands_for) at c.begin-begun.ensures in
    start-fits a.settings a.state rs a.times.now a.image.now _ c.has_bad_record-bad.result _ b.0 b.1
    (begin-fits a.state a.settings c.has_bad_record-bad.result (length rs) (length a.times.now) a.image.now rs refl)

pub returns : goal.returns
returns g c =
    let a = c.args in
    let xs = a.records.now in
    let stands_for = g.T.StoredRecord.stands_for in
    let rs = map stands_for xs in
    let b = rw (← length-map xs stands_for) at c.begin-begun.ensures in
    let r = c.start_records.ensures in
    start-left a.settings a.state rs _ a.times.now a.image.now _ _ c.has_bad_record-bad.result _ c.has_bad_record-bad.ensures b.0 b.1 r.0 r.1
    ∙ start-carried a.settings (memory a.state rs a.times.now [] a.image.now)
