use Rattle.std.proofs.Common.{◌≡◌, ◌+◌, ◌-◌, ◌*◌}
use Rattle.reading.specs.Decided.{uints}
use Rattle.reading.specs.Times.{rise_from, rising_at}
use Rattle.reading.proofs.times.rising.Given as goal

abbrev pub invariant-loop-i : goal.invariant-loop-i
invariant-loop-i l = rise_from l.last (uints 8 (l.n - l.i) l.s (l.at + 8 * l.i)) ≡ rising_at l.n l.s l.at
