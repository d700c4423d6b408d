-- How long a signal's stream is, and that it stands, after as many bytes as its block has times, before the next block.
-- Assumes nothing.
use Prim.Native.Nat.{ℕ, zero, suc, ◌+◌, ◌-◌, ◌≤◌}
use mathlib.Core.Path.{◌≡◌, sym, ap, ◌∙◌}
use mathlib.Core.List.{List, [], ◌∷◌}
use mathlib.Core.Option.{Option, some, none}
use native.Mathlib.Omega.{arith}
use lib.ListN.{length, get_or, drop, length-append, length-drop}
use lib.Seq.{length-take-le}
use Rattle.lists.specs.Bytes.{Bytes}
use Rattle.signal.specs.declared.kind.SignalEncoding.{SignalEncoding}
use Rattle.signal.specs.declared.kind.SignalEncoding.TheVariants.{Absent}
use Rattle.stream.specs.Entries.{Entry, stream_bytes}
use Rattle.image.specs.Block.{Part, data_of, part_bytes}
use Rattle.image.specs.Head.{image_limit}
use Rattle.image.specs.Image.{streamed_parts, streamed_part}
use Rattle.codec.proofs.Growth.{parts-count}
use Rattle.loaded.specs.Opener.{kind_at, block_at, part_at, stream_in}
use Rattle.walk.specs.Walk.{Opened, image_in, block_place, BlockHere, PartHere}
use Rattle.walk.proofs.HeadLaws.{head_in}
use Rattle.walk.proofs.BlockLaws.{fits_in, here, next-size}

-- a stream is no longer than its block's data
pub stream-data : (ks : List SignalEncoding) (ps : List (Option (Part (List Entry)))) (g : ℕ) → length ps ≡ length ks
    → length (stream_in (get_or ks g Absent) (get_or ps g none)) ≤ length (data_of (streamed_parts ks ps))
unfolding data_of streamed_parts
stream-data [] [] g e = omega arith
stream-data [] (p ∷ ps) g e = absurd (omega arith)
stream-data (k ∷ ks) [] g e = absurd (omega arith)
stream-data (k ∷ ks) (none ∷ ps) zero e = omega arith
stream-data (k ∷ ks) (some p ∷ ps) zero e = omega (arith, length-append (p.top ∷ stream_bytes k 0 p.stream) (data_of (streamed_parts ks ps)))
stream-data (k ∷ ks) (p ∷ ps) (suc g) e = omega (arith, length-append (part_bytes (streamed_part k p)) (data_of (streamed_parts ks ps)), stream-data ks ps g (omega arith))

-- how long it is
pub part-size : (b : List ℕ) (number g from to top : ℕ) → PartHere from to top number g b → length (stream_in (kind_at (image_in b) g) (part_at (block_at (image_in b) number) g)) ≡ to - from
part-size b number g from to top p =
    sym (ap length p.stream) ∙ length-take-le (to - from) (drop from b) (omega (arith, length-drop from b, p.ordered, p.inside))

pub part_room : (b : List ℕ) (number at g from to top : ℕ) → Bytes b → Opened b → BlockHere number at b → PartHere from to top number g b
    → (at + length (block_at (image_in b) number).times + (to - from) ≤ block_place (image_in b) (suc number)) × (block_place (image_in b) (suc number) ≤ image_limit)
part_room b number at g from to top y o h p =
    let x = image_in b in
    let n = block_at x number in
    let size = part-size b number g from to top p in
    let most = stream-data x.kinds n.parts g (parts-count _ x.kinds n.parts (fits_in number b y o h.exists).parts) in
    let next = next-size x number h.exists in
    (omega (arith, h.place), omega (arith, h.place, (here number at b y o h).most, (head_in b y o).most))
