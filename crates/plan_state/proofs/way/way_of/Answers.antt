-- The last time decides.
use mathlib.Core.Path.{sym, ap, ◌∙◌}
use Rattle.plan_state.specs.Way.{way_in}
use Rattle.plan_state.proofs.WayLaws.{way-first, way-last, way-compared}
use Rattle.plan_state.proofs.way.way_of.Goals as goal

pub returns-then-held-eq0 : goal.returns-then-held-eq0
returns-then-held-eq0 c = sym (way-first _ _ _ c.if-held-eq0.true)

pub returns : goal.returns
returns c =
    let a = c.args in
    ap way_in c.cmp.ensures ∙ way-compared _ a.time ∙ sym (way-last a.times.now a.held a.time c.if-held-eq0.false c.requires)
