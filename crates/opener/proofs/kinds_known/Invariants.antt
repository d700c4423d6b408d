use Rattle.std.proofs.Common.{◌≡◌, ◌+◌, ◌-◌, ◌*◌}
use Rattle.opener.specs.Opening.{known_at}
use Rattle.opener.proofs.kinds_known.Given as goal

abbrev pub invariant-loop-i : goal.invariant-loop-i
invariant-loop-i l = known_at (l.signals - l.i) l.image (16 + 4 * l.i) ≡ known_at l.signals l.image 16
