-- Field by field.
-- Assumes nothing.
use mathlib.Core.Path.{refl}
use Rattle.interface_answers.specs.Recorded.{outcome_of}
use Rattle.interface_answers.proofs.outcome.outcome_numbers.Goals as goal

pub returns : goal.returns
unfolding outcome_of
returns c = rw (c.answer_number.ensures, c.value_number.ensures, c.state_after-state.ensures) refl
