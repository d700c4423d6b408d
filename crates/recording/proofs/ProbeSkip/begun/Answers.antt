-- `begun` meets its contract: by computation.
-- Assumes nothing.
use mathlib.Core.Path.{refl}
use Rattle.recording.specs.State.{skip_begun}
use Rattle.recording.proofs.ProbeSkip.begun.Goals as goal

pub returns : goal.returns
unfolding skip_begun
returns c = refl
