-- What the code holds of an accepted image and of a block of it, as what they are.
-- Assumes nothing.
use Rattle.std.specs.Prelude.{List}
use Rattle.stream.specs.Entries.{Entry}
use Rattle.image.specs.Block as image
use Rattle.image.specs.Image.{Image}
use Rattle.loaded.specs.Opener.{block_at}
use Rattle.walk.specs.Walk.{image_in}
use Rattle.walk.specs.declared.open.OpenImage.{OpenImage}
use Rattle.walk.specs.declared.open.Block.{Block}

abbrev pub image_of : OpenImage → Image
image_of i = image_in i.bytes.now

abbrev pub block_of : Block → image.Block (List Entry)
block_of b = block_at (image_of b.image) b.number
