-- The times that are left, written from p on, give what all of them give, written from the place on.
use Prim.Native.Nat.{◌+◌, ◌-◌}
use mathlib.Core.Path.{◌≡◌}
use lib.ListN.{length, drop}
use lib.Seq.{sets}
use Rattle.walk.specs.Open.{block_of}
use Rattle.walk_table.proofs.put_times.Given as goal

abbrev pub invariant-loop-i : goal.invariant-loop-i
invariant-loop-i l =
    (l.p ≡ l.place + (l.i - l.skip)) × (length l.out ≡ length l.initial.out)
    × (sets l.out l.p (drop l.i (block_of l.block).times) ≡ sets l.initial.out l.place (drop l.skip (block_of l.block).times))
