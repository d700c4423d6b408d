-- The bytes and signals so far, with what the rest brings (`onward`), give the answer; a turn takes a record over (`onward-turn`) or finds
-- none.
use Prim.Native.Nat.{ℕ, ◌-◌, ◌≤◌}
use mathlib.Core.Path.{◌≡◌}
use lib.ListN.{length, drop}
use Rattle.marks.specs.Marks.{mark_at}
use Rattle.recording.specs.Work.{items_of}
use Rattle.work.specs.Counting.{scanned}
use Rattle.work.proofs.MeasureLaws.{onward}
use Rattle.work.proofs.scan.Given as goal

abbrev pub invariant-loop-p : goal.invariant-loop-p
invariant-loop-p l =
    (k : ℕ) × (l.p ≤ length l.work) × (length l.work - l.p ≤ k) × (l.sum ≤ l.p) × (l.count ≤ l.p) × (length l.map ≡ 8192) ×
    (scanned l.base (items_of (length l.work) l.signals l.work) ≡ onward (mark_at l.map) l.base l.sum l.count (items_of k l.signals (drop l.p l.work)))

abbrev pub decreases-loop-p : goal.decreases-loop-p
decreases-loop-p l = length l.work - l.p
