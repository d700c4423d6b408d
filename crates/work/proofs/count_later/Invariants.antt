-- The windows passed are counted (`changed-more`); past the last signal there is nothing to count (`changed-end`).
use Prim.Native.Nat.{◌*◌, ◌-◌, ◌≤◌}
use mathlib.Core.Path.{◌≡◌}
use Rattle.recording.specs.Work.{items_in}
use Rattle.work.specs.Counting.{changed}
use Rattle.work.proofs.count_later.Given as goal

abbrev pub invariant-loop-window : goal.invariant-loop-window
invariant-loop-window l = (1 ≤ l.window) × (l.count ≡ changed 65536 (65536 * l.window - 65536) (items_in l.signals l.work))
