-- Field by field.
-- Assumes nothing.
use mathlib.Core.Path.{refl}
use Rattle.interface_state.specs.State.{state_after}
use Rattle.interface_state.proofs.state_after.Goals as goal

pub returns : goal.returns
unfolding state_after
returns c = rw (c.flag_after.ensures, c.flag_after-2.ensures, c.flag_after-3.ensures) refl
