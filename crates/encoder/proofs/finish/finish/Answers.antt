-- The plan is made, the block opened, the loop over the records run, the block closed: together they are the step (plan/proofs/CarryLaws).
use Rattle.std.proofs.Common.{◌∙◌, map, length}
use Rattle.std.proofs.lemmas.List.{length-map}
use Rattle.plan.specs.Plan.{plan_finish}
use Rattle.plan.proofs.CarryLaws.{finish-carries, finish-carried}
use Rattle.encoder.proofs.StepLaws.{plan-turns, plan-ends, plan-left}
use Rattle.encoder.proofs.finish.finish.Goals as goal

pub cut_records-requires : goal.cut_records-requires
cut_records-requires g c =
    let a = c.args in
    let xs = a.records.now in
    let stands_for = g.T.StoredRecord.stands_for in
    let rs = map stands_for xs in
    let decided = plan_finish a.state (length xs) (length a.times.now) a.work.now (length a.image.now) in
    let p = c.prepare_finish-plan.ensures in
    plan-turns _ decided rs a.times.now a.work.now a.image.now _ p.0 p.1
    (finish-carries a.state rs a.times.now a.work.now a.image.now (length xs) (length-map xs stands_for)).loop

pub complete-requires : goal.complete-requires
complete-requires g c =
    let a = c.args in
    let xs = a.records.now in
    let stands_for = g.T.StoredRecord.stands_for in
    let rs = map stands_for xs in
    let decided = plan_finish a.state (length xs) (length a.times.now) a.work.now (length a.image.now) in
    let p = c.prepare_finish-plan.ensures in
    plan-ends _ decided rs a.times.now a.work.now a.image.now _ _ p.0 p.1 c.cut_records.ensures.1
    (finish-carries a.state rs a.times.now a.work.now a.image.now (length xs) (length-map xs stands_for)).end

pub returns : goal.returns
returns g c =
    let a = c.args in
    let xs = a.records.now in
    let stands_for = g.T.StoredRecord.stands_for in
    let rs = map stands_for xs in
    let decided = plan_finish a.state (length xs) (length a.times.now) a.work.now (length a.image.now) in
    let p = c.prepare_finish-plan.ensures in
    let e = c.complete.ensures in
    plan-left _ decided a.state _ rs _ a.times.now _ a.work.now a.image.now _ _ _ p.0 p.1 c.cut_records.ensures.0 c.cut_records.ensures.1 e.0 e.1 e.2
    ∙ finish-carried a.state rs a.times.now a.work.now a.image.now (length xs) (length-map xs stands_for)
