-- The groups so far, under the number that is left, are the number.
-- Assumes nothing.
use Prim.Native.Nat.{◌+◌, ◌-◌, ◌^◌, ◌≤◌, ◌<◌}
use mathlib.Core.Path.{◌≡◌}
use lib.ListN.{drop}
use Rattle.numbers.specs.Leb128.{above, read_leb, under}
use Rattle.numbers.proofs.leb128.longer.Given as goal

abbrev pub invariant-loop-i : goal.invariant-loop-i
invariant-loop-i l =
    (l.at ≤ l.i) × (l.i ≤ l.at + 4) × (l.weight ≡ 128 ^ (5 - (l.at + 4 - l.i))) × (l.v < l.weight)
    × (above l.first (read_leb 4 l.at (drop l.at l.s)) ≡ under l.v l.weight (read_leb (l.at + 4 - l.i) l.i (drop l.i l.s)))
