-- The loop's invariant: the times that are left, written from p on, give what all of them give, written from `at` on.
-- Assumes nothing.
use Prim.Native.Nat.{◌+◌, ◌-◌, ◌*◌}
use mathlib.Core.Path.{◌≡◌}
use lib.ListN.{length, take, drop}
use lib.Seq.{sets}
use Rattle.image.specs.Block.{les}
use Rattle.block.proofs.pass.put_times.Given as goal

abbrev pub invariant-loop-i : goal.invariant-loop-i
invariant-loop-i l =
    (l.p ≡ l.at + 8 * l.i) × (length l.tail ≡ length l.initial.tail)
    × (sets l.tail l.p (les 8 (take (l.held - l.i) (drop l.i l.times))) ≡ sets l.initial.tail l.at (les 8 (take l.held l.times)))
