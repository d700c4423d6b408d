-- The block stands at its place.
use Rattle.walk.proofs.OpenBlock.{standing}
use Rattle.walk_part.proofs.part_in.Goals as goal

pub returns : goal.returns
returns c = c.part_at.ensures c.args.block.number (standing c.args.block)
