-- The image that accepted bytes are, where its blocks and their parts begin, and what its blocks add to the combined table.
-- Laws: proofs/HeadLaws, proofs/BlockLaws; PartLaws of walk_part, TableLaws of walk_table; for entry points, proofs/OpenLaws.
-- Assumes nothing.
use Rattle.std.specs.Prelude as std
use Rattle.std.specs.Prelude.{ℕ, suc, ◌+◌, ◌-◌, ◌≤◌, ◌<◌, ◌≡◌, Bool, true, List, [], ◌∷◌, ◌++◌, eqb, length, take, drop}
use Rattle.std.proofs.Math.Option.{Option, some, none}
use Rattle.lists.specs.Choice.{pick, is_some}
use Rattle.lists.specs.Last.{last_or}
use Rattle.stream.specs.Entries.{Entry}
use Rattle.image.specs.Block.{Part, Block, data_of, block_size}
use Rattle.image.specs.Head.{head_size}
use Rattle.image.specs.Image.{Image, image, streamed_parts, blocks_bytes}
use Rattle.codec.specs.Parse.{parse}
use Rattle.loaded.specs.Opener.{open_of, kind_at, block_at, part_at, stream_in}
use Rattle.loaded.specs.Loading.{top_in}

-- the opener accepts
abbrev pub Opened : List ℕ → Type 0
Opened b = open_of b ≡ true

abbrev pub image_from : Option Image → Image
image_from none = image 0 [] []
image_from (some x) = x

-- the image that bytes are, an empty one where they are none
unfoldable pub image_in : List ℕ → Image
image_in b = image_from (parse b)

-- where block number n begins, and, at the number of blocks, where the image ends
unfoldable pub block_place : Image → ℕ → ℕ
block_place x n = head_size (length x.kinds) + length (blocks_bytes x.kinds (take n x.blocks))

-- the parts of block number n as bytes
abbrev pub parts_in : Image → ℕ → List (Option (Part (List ℕ)))
parts_in x n = streamed_parts x.kinds (block_at x n).parts

-- where the data of block number n begin
abbrev pub data_place : Image → ℕ → ℕ
data_place x n = block_place x n + block_size (length x.kinds) (length (block_at x n).times) 0

-- where in block number n the part of signal g begins, if there is one; at the number of signals, where the block ends
unfoldable pub part_place : Image → (n g : ℕ) → ℕ
part_place x n g = data_place x n + length (data_of (take g (parts_in x n)))

-- block number n begins at byte `at`
pub record BlockHere (n at : ℕ) (b : List ℕ) : Type 0 where
  pub exists : n < length (image_in b).blocks
  pub place : at ≡ block_place (image_in b) n

-- some block begins there
abbrev pub SomeBlock : (at : ℕ) → List ℕ → Type 0
SomeBlock at b = (n : ℕ) × BlockHere n at b

-- some block begins there that has a time number i
abbrev pub TimeHere : (at i : ℕ) → List ℕ → Type 0
TimeHere at i b = (n : ℕ) × BlockHere n at b × (i < length (block_at (image_in b) n).times)

-- some block begins there, and the signal exists
abbrev pub SignalHere : (at signal : ℕ) → List ℕ → Type 0
SignalHere at g b = SomeBlock at b × (g < length (image_in b).kinds)

-- whether signal g has changes in block number n
abbrev pub part_there : Image → (n g : ℕ) → Bool
part_there x n g = is_some (part_at (block_at x n) g)

-- where its stream there begins: after the part's class byte; 0 if there are no changes
abbrev pub stream_place : Image → (n g : ℕ) → ℕ
stream_place x n g = pick (part_there x n g) (suc (part_place x n g)) 0

-- the bytes from one place to another are the stream of signal g in block number n, and `top` is its top class; they end where the next
-- part begins, if there are changes
pub record PartHere (from to top n g : ℕ) (b : List ℕ) : Type 0 where
  pub ordered : from ≤ to
  pub inside : to ≤ length b
  pub stream : take (to - from) (drop from b) ≡ stream_in (kind_at (image_in b) g) (part_at (block_at (image_in b) n) g)
  pub class : top ≡ top_in (part_at (block_at (image_in b) n) g)
  pub begin : from ≡ stream_place (image_in b) n g
  pub end : part_there (image_in b) n g ≡ true → to ≡ part_place (image_in b) n (suc g)

-- ---- the combined table

-- the end of a table, as the code holds it
abbrev pub end_held : std.Option ℕ → Option ℕ
end_held std.None = none
end_held (std.Some t) = some t

-- its last time, if it has one
abbrev pub last_time : List ℕ → Option ℕ
last_time [] = none
last_time (x ∷ l) = some (last_or x l)

-- how many of a block's times a table that ends with `end`, if it has a time, has already: the first, where it is that end
abbrev pub shared_times : (end : Option ℕ) → (times : List ℕ) → ℕ
shared_times none ts = 0
shared_times (some t) [] = 0
shared_times (some t) (u ∷ ts) = pick (eqb u t) 1 0

-- the times that blocks add to such a table
unfoldable pub added_times : (end : Option ℕ) → List (Block (List Entry)) → List ℕ
added_times end [] = []
added_times end (y ∷ ys) = drop (shared_times end y.times) y.times ++ added_times (some (last_or 0 y.times)) ys

-- some block begins there, and its times without the first `skip` fit into a list of `room` numbers from a place on
abbrev pub TimesFit : (at skip from room : ℕ) → List ℕ → Type 0
TimesFit at skip from room b =
    (n : ℕ) × BlockHere n at b × (skip ≤ length (block_at (image_in b) n).times) × (from + (length (block_at (image_in b) n).times - skip) ≤ room)
