-- `ended` meets its contract: by computation.
-- Assumes nothing.
use mathlib.Core.Path.{refl}
use Rattle.recording.specs.State.{skip_ended}
use Rattle.recording.proofs.ProbeSkip.ended.Goals as goal

pub returns : goal.returns
unfolding skip_ended
returns c = refl
