-- The invariant: the number of the digits passed is not too large, and with the digits that follow it is the number asked.
-- Assumes nothing.
use Rattle.std.proofs.Common.{◌≡◌, ◌≤◌, drop}
use Rattle.digits.specs.Numbers.{bind, digits_from, at_most, number_to}
use Rattle.digits.proofs.decimal.Given as goal

abbrev pub invariant-loop-b : goal.invariant-loop-b
invariant-loop-b l = record {
  small : l.value ≤ l.most;
  same : bind (digits_from 10 l.value (drop l.b-index l.s)) (at_most l.most) ≡ number_to l.most l.s;
}
