-- The blocks follow the head.
use native.Mathlib.Omega.{arith}
use Rattle.walk.specs.Open.{image_of}
use Rattle.walk.proofs.BlockLaws.{first-place}
use Rattle.walk.proofs.open.OpenImage.first_block.Goals as goal

pub returns : goal.returns
returns c = omega (arith, c.head_size.ensures, c.signal_count.ensures, first-place (image_of c.args.self))
