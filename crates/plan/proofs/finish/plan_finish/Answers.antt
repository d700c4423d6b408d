-- With and without a cut.
-- Assumes nothing.
use mathlib.Core.Path.{◌≡◌, sym, ap, ◌∙◌}
use mathlib.Core.Bool.{false}
use native.Mathlib.Omega.{arith}
use lib.ListN.{length}
use Rattle.std.specs.declared.result.Result.TheVariants.{Err}
use Rattle.std.proofs.lemmas.Result.{err_from_is_err_and}
use Rattle.refusal.specs.declared.Refusal.{Refusal}
use Rattle.recording.specs.Memory.{Tests, first}
use Rattle.recording.specs.Refusals.{state_tests}
use Rattle.refusals.proofs.StateLaws.{sound}
use Rattle.cut.proofs.CutLaws.{size_room}
use Rattle.recording.specs.declared.Outcome.{Outcome}
use Rattle.plan_state.specs.Outcomes.{still, cutting, closing}
use Rattle.plan.specs.Plan.{or_refused, finish_sized}
use Rattle.plan.proofs.FinishLaws.{finish-refused, finish-empty, finish-held}
use Rattle.plan.proofs.RefusedLaws.{one-holds, first_from}
use Rattle.plan.proofs.finish.plan_finish.Goals as goal
use Rattle.plan.proofs.finish.plan_finish.Goals.{In_ok-state_refusal}

-- no test of the state refuses the finish
none : (c : goal.In_ok-state_refusal) → let a = c.args in first (state_tests a.state false a.lent.records a.lent.times (length a.work.now) a.lent.image) ≡ 0
none c = sym c.in_ok-state_refusal.ensures

pub returns-in_err-state_refusal : goal.returns-in_err-state_refusal
returns-in_err-state_refusal c =
    let a = c.args in
    let tests : Tests = state_tests a.state false a.lent.records a.lent.times (length a.work.now) a.lent.image in
    let p = err_from_is_err_and c.from_residual.result c.from_residual.ensures.1 in
    let n = c.in_err-state_refusal.ensures in
    rw (p.1, p.2)
    (ap (λ (r : Refusal). or_refused a.state (Err r)) (sym (first_from tests _ n))
    ∙ sym (finish-refused a.state a.lent.records a.lent.times a.work.now a.lent.image (one-holds tests _ n)))

pub returns-then-state-eq0 : goal.returns-then-state-eq0
returns-then-state-eq0 c =
    let a = c.args in
    c.plan_still.ensures
    ∙ ap (λ (o : Outcome). still o a.state) c.closed.ensures
    ∙ sym (finish-empty a.state a.lent.records a.lent.times a.work.now a.lent.image (none (goal.at.returns-then-state-eq0 c).In_ok-state_refusal) c.if-state-eq0.true)

pub cut_size-requires : goal.cut_size-requires
cut_size-requires c = let h = sound _ _ _ _ _ _ (none (goal.at.cut_size-requires c).In_ok-state_refusal) in (h.worked, h.used, h.short)

pub returns-in_err-size : goal.returns-in_err-size
returns-in_err-size c =
    let a = c.args in
    let p = err_from_is_err_and c.from_residual-in_err-size.result c.from_residual-in_err-size.ensures.1 in
    rw (p.1, p.2)
    (sym (finish-held a.state a.lent.records a.lent.times a.work.now a.lent.image (none (goal.at.returns-in_err-size c).In_ok-state_refusal) c.if-state-eq0.false
    ∙ ap (finish_sized a.state a.lent.records) (sym c.in_err-size.ensures)))

pub cut_state-requires : goal.cut_state-requires
cut_state-requires c =
    let a = c.args in
    let h = sound _ _ _ _ _ _ (none (goal.at.cut_state-requires c).In_ok-state_refusal) in
    let room = size_room a.state a.work.now a.lent.image c.in_ok-size.size c.in_ok-size.ensures in
    (omega (arith, room, h.used, h.short), omega (arith, h.blocks, h.used, h.short))

pub returns : goal.returns
returns c =
    let a = c.args in
    c.plan_cut.ensures
    ∙ ap (λ (o : Outcome). cutting o a.state c.in_ok-size.size a.lent.records) (c.closed-after.ensures ∙ ap closing c.cut_state.ensures)
    ∙ sym (finish-held a.state a.lent.records a.lent.times a.work.now a.lent.image (none (goal.at.returns c).In_ok-state_refusal) c.if-state-eq0.false
    ∙ ap (finish_sized a.state a.lent.records) (sym c.in_ok-size.ensures))
