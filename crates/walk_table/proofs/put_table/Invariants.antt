-- What the blocks from this number on add, written from p on, gives what the whole table gives.
use Prim.Native.Nat.{◌+◌}
use mathlib.Core.Path.{◌≡◌}
use mathlib.Core.Option.{none}
use lib.ListN.{length, drop}
use lib.Seq.{sets}
use Rattle.walk.specs.Walk.{block_place, end_held, added_times}
use Rattle.walk.specs.Open.{image_of}
use Rattle.walk_table.proofs.put_table.Given as goal

abbrev pub invariant-loop-number : goal.invariant-loop-number
invariant-loop-number l =
    (l.at ≡ block_place (image_of l.image) l.number) × (length l.out ≡ length l.initial.out)
    × (l.p + length (added_times (end_held l.end) (drop l.number (image_of l.image).blocks)) ≡ length (added_times none (image_of l.image).blocks))
    × (sets l.out l.p (added_times (end_held l.end) (drop l.number (image_of l.image).blocks)) ≡ sets l.initial.out 0 (added_times none (image_of l.image).blocks))
