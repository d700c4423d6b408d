-- The invariant: the number of the digits passed has 4 bits for each, and with the digits that follow it is the number asked.
-- Assumes nothing.
use Rattle.std.proofs.Common.{◌≡◌, ◌<◌, ◌^◌, drop}
use Rattle.digits.specs.Numbers.{digits_from, bits_of}
use Rattle.digits.proofs.bits.Given as goal

abbrev pub invariant-loop-b : goal.invariant-loop-b
invariant-loop-b l = record {
  small : l.value < 16 ^ l.b-index;
  same : digits_from 16 l.value (drop l.b-index l.s) ≡ bits_of l.s;
}
