-- The blocks from number k on, passed, give what all blocks give.
use Prim.Native.Nat.{◌≤◌}
use mathlib.Core.Path.{◌≡◌}
use lib.ListN.{drop}
use Rattle.walk.specs.Walk.{block_place}
use Rattle.walk.specs.Open.{image_of}
use Rattle.cursor_point.specs.Point.{unpointed, blocks_passed, point_as, PointReads}
use Rattle.cursor_point.proofs.point_at.Given as goal

abbrev pub invariant-loop-k : goal.invariant-loop-k
invariant-loop-k l =
    (l.at ≡ block_place (image_of l.image) l.k) × PointReads l.kind l.image.bytes.now l.held × (l.held.count ≤ l.at)
    × (blocks_passed l.t l.signal (point_as l.kind l.image.bytes.now l.held) (drop l.k (image_of l.image).blocks) ≡ blocks_passed l.t l.signal unpointed (image_of l.image).blocks)
