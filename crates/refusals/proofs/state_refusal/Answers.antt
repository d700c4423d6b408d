-- By the first two tests, and the one that the others come to.
-- Assumes nothing.
use mathlib.Core.Path.{refl, sym, ap, ◌∙◌}
use mathlib.Core.Bool.{Bool}
use Rattle.lists.specs.Choice.{pick}
use Rattle.recording.specs.Refusals.{state_tests}
use Rattle.refusals.proofs.StateLaws.{state-told}
use Rattle.refusals.proofs.state_refusal.Goals as goal

pub returns-then-state : goal.returns-then-state
unfolding state_tests
returns-then-state c = rw c.if-state.true refl

pub returns-then-foreign : goal.returns-then-foreign
unfolding state_tests
returns-then-foreign c = rw (c.if-state.false, c.if-foreign.true) refl

pub returns-then-is_altered : goal.returns-then-is_altered
returns-then-is_altered c =
    sym (state-told _ _ _ _ _ _ c.if-state.false c.if-foreign.false
    ∙ ap (λ (b : Bool). pick b 10 0) (sym c.is_altered.ensures ∙ c.if-is_altered.true))

pub returns : goal.returns
returns c =
    sym (state-told _ _ _ _ _ _ c.if-state.false c.if-foreign.false
    ∙ ap (λ (b : Bool). pick b 10 0) (sym c.is_altered.ensures ∙ c.if-is_altered.false))
