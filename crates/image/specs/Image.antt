-- Document 01, 'Block and image': an image, with its streams as entries, and its bytes.
-- Assumes nothing.
use Rattle.std.specs.Prelude.{ℕ, ◌+◌, List, [], ◌∷◌, ◌++◌, length}
use Rattle.std.proofs.Math.Option.{Option, some, none}
use Rattle.signal.specs.declared.kind.SignalEncoding.{SignalEncoding}
use Rattle.stream.specs.Entries.{Entry, stream_bytes}
use Rattle.image.specs.Block.{Part, Block, part, block, block_bytes}
use Rattle.image.specs.Head.{head_size, head_bytes}

-- B, the kinds of the S signals, the N blocks; S, N and all sizes and offsets follow from these
pub record Image : Type 0 where
  pub limit : ℕ
  pub kinds : List SignalEncoding
  pub blocks : List (Block (List Entry))

abbrev pub image : ℕ → List SignalEncoding → List (Block (List Entry)) → Image
image l k b = record { limit = l; kinds = k; blocks = b }

abbrev pub streamed_part : SignalEncoding → Option (Part (List Entry)) → Option (Part (List ℕ))
streamed_part k none = none
streamed_part k (some p) = some (part p.top (stream_bytes k 0 p.stream))

-- one for each kind
unfoldable pub streamed_parts : List SignalEncoding → List (Option (Part (List Entry))) → List (Option (Part (List ℕ)))
streamed_parts [] ps = []
streamed_parts (k ∷ ks) [] = none ∷ streamed_parts ks []
streamed_parts (k ∷ ks) (p ∷ ps) = streamed_part k p ∷ streamed_parts ks ps

-- the block with its streams as bytes
abbrev pub streamed : List SignalEncoding → Block (List Entry) → Block (List ℕ)
streamed ks b = block b.times (streamed_parts ks b.parts)

unfoldable pub blocks_bytes : List SignalEncoding → List (Block (List Entry)) → List ℕ
blocks_bytes ks [] = []
blocks_bytes ks (b ∷ bs) = block_bytes (streamed ks b) ++ blocks_bytes ks bs

-- the head, its total counting all bytes, then the blocks
unfoldable pub image_bytes : Image → List ℕ
image_bytes x =
    head_bytes x.limit (length x.blocks) (head_size (length x.kinds) + length (blocks_bytes x.kinds x.blocks)) x.kinds
    ++ blocks_bytes x.kinds x.blocks
