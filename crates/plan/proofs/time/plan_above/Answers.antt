-- With and without a cut.
-- Assumes nothing.
use mathlib.Core.Path.{sym, ap, ◌∙◌}
use native.Mathlib.Omega.{arith}
use Rattle.std.specs.declared.result.Result.TheVariants.{Ok}
use Rattle.std.proofs.lemmas.Result.{err_from_is_err_and}
use Rattle.recording.specs.declared.Answer.TheVariants.{Taken}
use Rattle.recording.specs.declared.Encoder.{Encoder}
use Rattle.refusals.proofs.StateLaws.{sound}
use Rattle.cut.proofs.CutLaws.{size_room}
use Rattle.recording.specs.declared.Outcome.{Outcome}
use Rattle.recording.specs.Step.{timed_state}
use Rattle.plan_state.specs.declared.plan.Plan.{Plan}
use Rattle.plan_state.specs.Outcomes.{outcome, cutting, taking}
use Rattle.plan.specs.Plan.{time_sized}
use Rattle.plan.proofs.TimeLaws.{above-cut}
use Rattle.plan.proofs.time.plan_above.Goals as goal

pub cut_size-requires : goal.cut_size-requires
cut_size-requires c = let h = sound _ _ _ _ _ _ c.requires in (h.worked, h.used, h.short)

pub returns-in_err-size : goal.returns-in_err-size
returns-in_err-size c =
    let a = c.args in
    let p = err_from_is_err_and c.from_residual.result c.from_residual.ensures.1 in
    rw (p.1, p.2)
    (sym (above-cut a.state a.lent.records a.work.now a.lent.image a.stamp.sender a.stamp.time (sound _ _ _ _ _ _ c.requires).held c.if-state.false
    ∙ ap (time_sized a.state a.lent.records a.stamp.sender a.stamp.time) (sym c.in_err-size.ensures)))

pub cut_state-requires : goal.cut_state-requires
cut_state-requires c =
    let a = c.args in
    let h = sound _ _ _ _ _ _ c.requires in
    let room = size_room a.state a.work.now a.lent.image c.in_ok-size.size c.in_ok-size.ensures in
    (omega (arith, room, h.used, h.short), omega (arith, h.blocks, h.used, h.short))

pub returns : goal.returns
returns c =
    let a = c.args in
    let o = c.taken-after.ensures ∙ ap (λ (s : Encoder). outcome (Ok Taken) (timed_state s a.stamp.sender)) c.cut_state.ensures in
    c.plan_taken-2.ensures
    ∙ ap (λ (q : Plan). taking q a.stamp.time) (c.plan_cut-plan.ensures ∙ ap (λ (o : Outcome). cutting o a.state c.in_ok-size.size a.lent.records) o)
    ∙ sym (above-cut a.state a.lent.records a.work.now a.lent.image a.stamp.sender a.stamp.time (sound _ _ _ _ _ _ c.requires).held c.if-state.false
    ∙ ap (time_sized a.state a.lent.records a.stamp.sender a.stamp.time) (sym c.in_ok-size.ensures))
