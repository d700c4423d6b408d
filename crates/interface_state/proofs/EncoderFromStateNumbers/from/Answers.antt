-- Field by field.
-- Assumes nothing.
use Rattle.std.proofs.Common.{refl}
use Rattle.interface_state.specs.State.{state_from}
use Rattle.interface_state.proofs.EncoderFromStateNumbers.from.Goals as goal

pub returns : goal.returns
unfolding state_from
returns c = refl
