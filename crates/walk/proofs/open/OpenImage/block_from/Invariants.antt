-- The block that begins at the place is not behind.
use Rattle.std.proofs.Common.{◌-◌, length}
use Rattle.walk.specs.Open.{image_of}
use Rattle.walk.proofs.FromPlace.{Passing}
use Rattle.walk.proofs.open.OpenImage.block_from.Given as goal

abbrev pub invariant-loop-at : goal.invariant-loop-at
invariant-loop-at l = Passing (image_of l.image) l.number l.at l.place

abbrev pub decreases-loop-at : goal.decreases-loop-at
decreases-loop-at l = length (image_of l.image).blocks - l.number
