-- Block number k begins at the place.
use mathlib.Core.Path.{◌≡◌}
use Rattle.walk.specs.Walk.{block_place}
use Rattle.walk.specs.Open.{image_of}
use Rattle.walk.proofs.open.OpenImage.block.Given as goal

abbrev pub invariant-loop-k : goal.invariant-loop-k
invariant-loop-k l = l.at ≡ block_place (image_of l.image) l.k
