-- `counted` meets its contract: the count stays at its top.
-- Assumes nothing.
use mathlib.Core.Path.{refl}
use Rattle.recording.specs.State.{skip_counted}
use Rattle.recording.proofs.CallsLaws.{counted-more, counted-top}
use Rattle.recording.proofs.ProbeSkip.counted.Goals as goal

pub returns-then-self-lt4294967295 : goal.returns-then-self-lt4294967295
unfolding skip_counted
returns-then-self-lt4294967295 c = rw (counted-more _ c.if-self-lt4294967295.true) refl

pub returns-else-self-lt4294967295 : goal.returns-else-self-lt4294967295
unfolding skip_counted
returns-else-self-lt4294967295 c = rw (counted-top _ c.if-self-lt4294967295.false) refl
