-- The tests in their order.
use mathlib.Core.Path.{◌≡◌, refl, sym, ◌∙◌}
use Rattle.std.proofs.lemmas.Result.{err_from_is_err_and}
use Rattle.admission.specs.Stages.{admission_of}
use Rattle.admission.proofs.StageLaws.{heard, signalled, signalled-refused, signalled-taken, state-refused, state-passed, admitted-early, admitted-timed}
use Rattle.admission.proofs.admitted.Goals as goal
use Rattle.admission.proofs.admitted.Goals.{Else-state-eq0, Else-of}

-- a time is held
timed : (c : goal.Else-state-eq0) → let a = c.args in
    admission_of a.state a.kept a.lent.records a.lent.times a.work a.lent.image a.target.sender a.target.signal.0
    ≡ heard a.state a.kept a.target.sender a.target.signal.0
timed c =
    admitted-timed _ _ _ _ _ _ _ _ (state-passed _ c.args.kept _ _ _ _ _ c.args.target.signal.0 _ _ c.no_probe-foreign.ensures c.state_refusal.ensures c.in_ok-state_refusal.was)
    c.if-state-eq0.false

-- the sender's changes are not skipped
unskipped : (c : goal.Else-of) → let a = c.args in
    admission_of a.state a.kept a.lent.records a.lent.times a.work a.lent.image a.target.sender a.target.signal.0
    ≡ signalled a.state a.kept a.target.sender a.target.signal.0
unskipped c = timed (goal.at.Else-of c).Else-state-eq0 ∙ rw (← c.of.ensures, c.if-of.false) refl

pub returns-in_err-state_refusal : goal.returns-in_err-state_refusal
returns-in_err-state_refusal c =
    let p = err_from_is_err_and c.from_residual.result c.from_residual.ensures.1 in
    rw (p.1, p.2) (state-refused _ _ _ _ _ _ _ _ _ _ c.no_probe-foreign.ensures c.state_refusal.ensures _ c.in_err-state_refusal.was)

pub returns-then-state-eq0 : goal.returns-then-state-eq0
returns-then-state-eq0 c =
    sym (admitted-early _ _ _ _ _ _ _ _ (state-passed _ c.args.kept _ _ _ _ _ c.args.target.signal.0 _ _ c.no_probe-foreign.ensures c.state_refusal.ensures c.in_ok-state_refusal.was)
    c.if-state-eq0.true)

pub returns-then-of : goal.returns-then-of
returns-then-of c = sym (timed (goal.at.returns-then-of c).Else-state-eq0 ∙ rw (← c.of.ensures, c.if-of.true) refl)

pub returns-in_err-signal_refusal : goal.returns-in_err-signal_refusal
returns-in_err-signal_refusal c =
    let p = err_from_is_err_and c.from_residual-in_err-signal_refusal.result c.from_residual-in_err-signal_refusal.ensures.1 in
    let a = c.args in
    rw (p.1, p.2) (signalled-refused a.state a.kept a.target.sender a.target.signal.0 _ c.signal_refusal.ensures _ c.in_err-signal_refusal.was ∙ sym (unskipped
    (goal.at.returns-in_err-signal_refusal c).Else-of))

pub returns : goal.returns
returns c =
    let a = c.args in
    signalled-taken a.state a.kept a.target.sender a.target.signal.0 _ c.signal_refusal.ensures c.in_ok-signal_refusal.was ∙ sym (unskipped (goal.at.returns c).Else-of)
