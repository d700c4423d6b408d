-- n and what the blocks from this number on add is the length.
use Prim.Native.Nat.{◌+◌}
use mathlib.Core.Path.{◌≡◌}
use mathlib.Core.Option.{none}
use lib.ListN.{length, drop}
use Rattle.walk.specs.Walk.{block_place, end_held, added_times}
use Rattle.walk.specs.Open.{image_of}
use Rattle.walk_table.proofs.table_length.Given as goal

abbrev pub invariant-loop-number : goal.invariant-loop-number
invariant-loop-number l =
    (l.at ≡ block_place (image_of l.image) l.number)
    × (l.n + length (added_times (end_held l.end) (drop l.number (image_of l.image).blocks)) ≡ length (added_times none (image_of l.image).blocks))
