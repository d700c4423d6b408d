-- The tests; then the head's numbers and the state.
-- Assumes nothing.
use mathlib.Core.Path.{◌≡◌, sym, ap, ◌∙◌}
use native.Mathlib.Omega.{arith}
use lib.ListN.{length}
use Rattle.std.specs.declared.result.Result.TheVariants.{Err}
use Rattle.refusal.specs.declared.Refusal.{Refusal}
use Rattle.recording.specs.Memory.{Tests, first}
use Rattle.recording.specs.Refusals.{start_tests}
use Rattle.recording.proofs.StartLaws.{Startable, startable}
use Rattle.recording.specs.declared.Outcome.{Outcome}
use Rattle.plan_state.specs.Outcomes.{outcome}
use Rattle.plan.specs.Begin.{begun}
use Rattle.plan.proofs.BeginLaws.{begin-refused, begin-taken}
use Rattle.plan.proofs.RefusedLaws.{one-holds, first_from}
use Rattle.plan.proofs.start.begin.Goals as goal
use Rattle.plan.proofs.start.begin.Goals.{In_default}

-- no test refuses the start
none : (c : goal.In_default) → let a = c.args in first (start_tests a.settings a.n a.bad a.times (length a.image.now)) ≡ 0
none c = sym c.in_default.ensures

fine : (c : goal.In_default) → let a = c.args in Startable a.settings a.n a.bad a.times (length a.image.now)
fine c = startable _ _ _ _ _ (none c)

pub returns-in-Err : goal.returns-in-Err
returns-in-Err c =
    let a = c.args in
    let tests : Tests = start_tests a.settings a.n a.bad a.times (length a.image.now) in
    let n = c.in-Err.ensures in
    let e = begin-refused a.state a.settings a.bad a.n a.times a.image.now (one-holds tests _ n) in
    (ap (λ (o : Outcome). begun o 0) (c.refused.ensures ∙ ap (λ (r : Refusal). outcome (Err r) a.state) (sym (first_from tests _ n))) ∙ sym e.0, sym e.1)

pub put_numbers-requires : goal.put_numbers-requires
put_numbers-requires c = let h = fine (goal.at.put_numbers-requires c).In_default in (h.few, omega (arith, h.room))

pub begun-requires : goal.begun-requires
begun-requires c = (fine (goal.at.begun-requires c).In_default).few

pub returns : goal.returns
returns c =
    let a = c.args in
    let e = begin-taken a.state a.settings a.bad a.n a.times a.image.now (none (goal.at.returns c).In_default) in
    (ap (λ (o : Outcome). begun o a.n) c.begun.ensures ∙ sym e.0, c.put_numbers.ensures ∙ sym e.1)
