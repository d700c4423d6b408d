-- By the way of the time.
-- Assumes nothing.
use native.Mathlib.Omega.{arith}
use mathlib.Core.Path.{◌≡◌, sym, ap, ◌∙◌}
use lib.ListN.{length}
use Rattle.std.specs.declared.result.Result.TheVariants.{Err}
use Rattle.std.proofs.lemmas.Result.{err_from_is_err_and}
use Rattle.refusal.specs.declared.Refusal.{Refusal}
use Rattle.recording.specs.Memory.{Tests, first}
use Rattle.recording.specs.Refusals.{no_probe, state_tests}
use Rattle.refusals.proofs.StateLaws.{sound}
use Rattle.recording.specs.declared.Outcome.{Outcome}
use Rattle.plan_state.specs.Outcomes.{still}
use Rattle.plan.specs.Plan.{or_refused, plan_by, plan_time}
use Rattle.plan_state.specs.Way.{way_in}
use Rattle.plan.proofs.RefusedLaws.{one-holds, first_from}
use Rattle.plan.proofs.TimeLaws.{time-refused, time-passed}
use Rattle.plan.proofs.time.plan_time.Goals as goal
use Rattle.plan.proofs.time.plan_time.Goals.{In_ok-state_refusal, After-way_of}

-- no test of the state refuses the time
none : (c : goal.In_ok-state_refusal) → let a = c.args in
    first (state_tests a.state (no_probe a.stamp.sender) a.lent.records (length a.times.now) (length a.work.now) a.lent.image) ≡ 0
none c = rw (c.no_probe.ensures, c.requires) at (sym c.in_ok-state_refusal.ensures)

-- what is decided past the tests, by the way of the time
past : (c : goal.After-way_of) → let a = c.args in
    plan_by a.state a.lent.records a.work.now a.lent.image a.stamp.sender a.stamp.time (way_in c.way_of.result)
    ≡ plan_time a.state a.lent.records a.times.now a.work.now a.lent.image a.stamp.sender a.stamp.time
past c =
    let a = c.args in
    sym (time-passed a.state a.lent.records a.times.now a.work.now a.lent.image a.stamp.sender a.stamp.time (none (goal.at.After-way_of c).In_ok-state_refusal)
    ∙ ap (plan_by a.state a.lent.records a.work.now a.lent.image a.stamp.sender a.stamp.time) (sym c.way_of.ensures))

pub returns-in_err-state_refusal : goal.returns-in_err-state_refusal
returns-in_err-state_refusal c =
    let a = c.args in
    let tests : Tests = state_tests a.state (no_probe a.stamp.sender) a.lent.records (length a.times.now) (length a.work.now) a.lent.image in
    let p = err_from_is_err_and c.from_residual.result c.from_residual.ensures.1 in
    let n = rw (c.no_probe.ensures, c.requires) at c.in_err-state_refusal.ensures in
    rw (p.1, p.2)
    (ap (λ (r : Refusal). or_refused a.state (Err r)) (sym (first_from tests _ n))
    ∙ sym (time-refused a.state a.lent.records a.times.now a.work.now a.lent.image a.stamp.sender a.stamp.time (one-holds tests _ n)))

pub way_of-requires : goal.way_of-requires
way_of-requires c = let h = sound _ _ _ _ _ _ (none (goal.at.way_of-requires c).In_ok-state_refusal) in omega (arith, h.held, h.table)

pub plan_above-requires : goal.plan_above-requires
plan_above-requires c = rw c.requires (none (goal.at.plan_above-requires c).In_ok-state_refusal)

pub returns-in-Greater : goal.returns-in-Greater
returns-in-Greater c =
    c.plan_above.ensures ∙ (rw c.in-Greater.is at (past (goal.at.returns-in-Greater c).After-way_of))

pub returns-in-Equal : goal.returns-in-Equal
returns-in-Equal c =
    let a = c.args in
    c.plan_still.ensures ∙ ap (λ (o : Outcome). still o a.state) c.same.ensures ∙ (rw c.in-Equal.is at (past (goal.at.returns-in-Equal c).After-way_of))

pub returns-in-Less : goal.returns-in-Less
returns-in-Less c =
    let a = c.args in
    c.plan_still-in-Less.ensures ∙ ap (λ (o : Outcome). still o a.state) c.back.ensures ∙ (rw c.in-Less.is at (past (goal.at.returns-in-Less c).After-way_of))
