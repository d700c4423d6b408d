-- The loop's invariant: the work from p on divides into records, and to take these gives what to take all of them gives. The measure is
-- what is left of the work.
-- Assumes nothing.
use Prim.Native.Nat.{ℕ, ◌-◌, ◌≤◌}
use mathlib.Core.Path.{◌≡◌}
use mathlib.Core.List.{List}
use mathlib.Core.Option.{some}
use lib.ListN.{length, drop}
use Rattle.recording.specs.Work.{Item, items_of, items_in}
use Rattle.block.specs.Passes.{count, Counts}
use Rattle.block.proofs.pass.count_bytes.Given as goal

abbrev pub invariant-loop-p : goal.invariant-loop-p
invariant-loop-p l =
    (k : ℕ) × (is : List Item) × (l.p ≤ length l.work) × (items_of k l.signals (drop l.p l.work) ≡ some is) × (length l.tail ≡ length l.initial.tail) × Counts is l.tail ×
    (count is l.tail ≡ count (items_in l.signals l.work) l.initial.tail)

abbrev pub decreases-loop-p : goal.decreases-loop-p
decreases-loop-p l = length l.work - l.p
