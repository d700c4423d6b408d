-- Decided, then opened.
-- Assumes nothing.
use mathlib.Core.Path.{◌∙◌}
use Rattle.plan.proofs.CarryLaws.{time-opens}
use Rattle.plan.proofs.time.prepare_time.Goals as goal

pub open_planned-requires : goal.open_planned-requires
open_planned-requires c =
    let a = c.args in
    rw (c.or_refused-plan.ensures ∙ c.plan_time.ensures) (time-opens a.state a.n a.times.now a.work.now a.image.now a.stamp.sender a.stamp.time)
