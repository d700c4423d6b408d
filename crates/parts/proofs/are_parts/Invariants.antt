use Rattle.std.proofs.Common.{◌≡◌, ◌≤◌}
use Rattle.std.specs.Prelude.{Some}
use Rattle.parts.proofs.SignalLaws.{start_at}
use Rattle.parts.proofs.are_parts.Given as goal

abbrev pub invariant-loop-i : goal.invariant-loop-i
invariant-loop-i l = (l.from ≤ l.n) × (start_at l.s l.kinds l.offsets l.base l.n l.count l.times l.i ≡ Some l.from)
