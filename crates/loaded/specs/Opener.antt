-- Document 01, 'Block and image': the opener, and the stream of a signal in a block.
-- Assumes nothing.
use Rattle.std.specs.Prelude.{ℕ, Bool, List, [], get_or}
use Rattle.std.proofs.Math.Option.{Option, some, none}
use Rattle.lists.specs.Choice.{is_some}
use Rattle.signal.specs.declared.kind.SignalEncoding.{SignalEncoding}
use Rattle.signal.specs.declared.kind.SignalEncoding.TheVariants.{Absent}
use Rattle.stream.specs.Entries.{Entry, stream_bytes}
use Rattle.image.specs.Block.{Part, Block, block}
use Rattle.image.specs.Image.{Image}
use Rattle.codec.specs.Parse.{parse}

-- the opener: whether bytes are an image
abbrev pub open_of : List ℕ → Bool
open_of b = is_some (parse b)

-- past the end stand an absent signal, an empty block and no part
abbrev pub kind_at : Image → (signal : ℕ) → SignalEncoding
kind_at x g = get_or x.kinds g Absent

abbrev pub block_at : Image → (number : ℕ) → Block (List Entry)
block_at x n = get_or x.blocks n (block [] [])

abbrev pub part_at : Block (List Entry) → (signal : ℕ) → Option (Part (List Entry))
part_at b g = get_or b.parts g none

abbrev pub stream_in : SignalEncoding → Option (Part (List Entry)) → List ℕ
stream_in k none = []
stream_in k (some p) = stream_bytes k 0 p.stream

abbrev pub stream_from : Option Image → (block signal : ℕ) → List ℕ
stream_from none n g = []
stream_from (some x) n g = stream_in (kind_at x g) (part_at (block_at x n) g)

-- the stream of a signal, by block number from 0, without the class byte; empty if the opener refuses, the block or signal does not
-- exist, or it has no changes there
unfoldable pub stream_of : (image : List ℕ) → (block signal : ℕ) → List ℕ
stream_of b n g = stream_from (parse b) n g
