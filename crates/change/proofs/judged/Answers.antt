-- The tests before the value, then the value.
use mathlib.Core.Path.{◌≡◌, refl, sym, ap, ◌∙◌}
use Rattle.std.proofs.lemmas.Result.{err_from_is_err_and}
use Rattle.std.specs.Prelude.{Result, Ok}
use Rattle.refusal.specs.declared.Refusal.{Refusal}
use Rattle.admission.specs.declared.Admission.{Admission}
use Rattle.admission.specs.Stages.{numbered}
use Rattle.admission.proofs.StageLaws.{taken-ready}
use Rattle.change.specs.Found.{found_of}
use Rattle.change.proofs.FoundLaws.{byAdmission, after-admitted, answered}
use Rattle.change.proofs.judged.Goals as goal
use Rattle.change.proofs.judged.Goals.{After-admitted}

-- what the tests before the value leave
left : (g : _) (c : After-admitted g) {j : Result Admission Refusal} → c.admitted.result ≡ j → let a = c.args in let v = g.V.GivenValue.given a.value in
    byAdmission a.state a.kept a.work.now a.target.sender a.target.signal.0 v (numbered j)
    ≡ found_of a.state a.kept a.lent.records a.lent.times a.lent.image a.work.now a.target.sender a.target.signal.0 v
left g c e = after-admitted _ _ _ _ _ _ _ _ _ c.admitted.ensures e

pub returns-in_err-admitted : goal.returns-in_err-admitted
returns-in_err-admitted g c =
    let p = err_from_is_err_and c.from_residual.result c.from_residual.ensures.1 in
    rw (p.1, p.2) (left g (goal.at.returns-in_err-admitted g c).After-admitted c.in_err-admitted.was)

pub record-requires : goal.record-requires
record-requires g c =
    let h = taken-ready _ _ _ _ _ _ _ _ (sym c.admitted.ensures ∙ ap numbered (c.in_ok-admitted.was ∙ ap Ok c.in-Taken.is)) in
    (h.timed, h.held, h.worked)

pub returns-in-Skipped : goal.returns-in-Skipped
returns-in-Skipped g c =
    let e = c.skipped.ensures in
    answered _ _ _ _ _ _ _ _ e.0 e.1 e.2 refl ∙ left g (goal.at.returns-in-Skipped g c).After-admitted (c.in_ok-admitted.was ∙ ap Ok c.in-Skipped.is)

pub returns-in-Taken : goal.returns-in-Taken
returns-in-Taken g c = c.record.ensures ∙ left g (goal.at.returns-in-Taken g c).After-admitted (c.in_ok-admitted.was ∙ ap Ok c.in-Taken.is)
