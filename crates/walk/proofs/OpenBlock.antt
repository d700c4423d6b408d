-- What an opened image and a block of it say of themselves, as the laws of the other files need it.
-- Assumes nothing.
use Prim.Native.Nat.{ℕ, ◌+◌, ◌*◌, ◌<◌}
use lib.ListN.{length, get_or}
use Rattle.codec.specs.Valid.{BlockFits}
use Rattle.codec.proofs.Trip.{Means}
use Rattle.image.specs.Block.{times_place}
use Rattle.image.specs.Image.{streamed_parts}
use Rattle.walk.specs.Walk.{BlockHere}
use Rattle.walk.specs.Open.{image_of, block_of}
use Rattle.walk.specs.declared.open.OpenImage.{OpenImage}
use Rattle.walk.specs.declared.open.Block.{Block}
use Rattle.walk.proofs.StandLaws.{Number}
use Rattle.walk.proofs.HeadLaws.{means, HeadAt, head_at}
use Rattle.walk.proofs.BlockLaws.{InBlock, here, fits_in, time-here}

pub meant : (i : OpenImage) → Means i.bytes.now (image_of i)
meant i = means i.bytes.now i.fits i.opened

pub head_of : (i : OpenImage) → HeadAt i.bytes.now (image_of i)
head_of i = head_at i.bytes.now (image_of i) (meant i)

pub standing : (b : Block) → BlockHere b.number b.at b.image.bytes.now
standing b = record { exists = b.exists; place = b.place }

pub stands : (b : Block) → InBlock b.image.bytes.now b.at (length (image_of b.image).kinds) (block_of b).times (streamed_parts (image_of b.image).kinds (block_of b).parts)
stands b = here b.number b.at b.image.bytes.now b.image.fits b.image.opened (standing b)

pub fits_of : (b : Block) → BlockFits (image_of b.image).limit (image_of b.image).kinds (block_of b)
fits_of b = fits_in b.number b.image.bytes.now b.image.fits b.image.opened b.exists

pub time_stands : (b : Block) (i : ℕ) → i < length (block_of b).times
    → Number b.image.bytes.now (b.at + times_place (length (image_of b.image).kinds) + 8 * i) 8 (get_or (block_of b).times i 0)
time_stands b i h = time-here b.number b.at i b.image.bytes.now b.image.fits b.image.opened (standing b) h
