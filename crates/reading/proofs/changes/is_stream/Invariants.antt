use Prim.Native.Nat.{◌-◌, ◌≤◌}
use mathlib.Core.Path.{◌≡◌}
use lib.ListN.{length, drop}
use Rattle.reading.specs.Stream.{is_chain}
use Rattle.reading.proofs.changes.is_stream.Given as goal

abbrev pub invariant-loop-at : goal.invariant-loop-at
invariant-loop-at l = (l.at ≤ length l.s) × (l.previous ≤ 65535) × (is_chain l.kind l.times l.top l.previous (drop l.at l.s) ≡ is_chain l.kind l.times l.top 0 l.s)

abbrev pub decreases-loop-at : goal.decreases-loop-at
decreases-loop-at l = length l.s - l.at
