-- The sum of the bytes. What is still to be added, added, gives the sum.
-- Assumes nothing.
use Rattle.std.proofs.Common.{◌≡◌, drop}
use Rattle.interface.specs.Sum.{sum_from}
use Rattle.interface.proofs.sum.wejumo_sum.Given as goal

abbrev pub invariant-loop-b : goal.invariant-loop-b
invariant-loop-b l = sum_from l.sum (drop l.b-index l.bytes) ≡ sum_from 0 l.bytes
