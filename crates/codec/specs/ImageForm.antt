-- The form of an image: document 01, 'Stream of one signal' and 'Block and image', as forms.
-- proofs/WrittenOut: it writes `image_bytes`.
-- Assumes nothing.
use Rattle.std.specs.Prelude.{ℕ, ◌+◌, ◌-◌, List, [], length, leb, eqb}
use Rattle.std.proofs.Math.Option.{Option, some, none}
use Rattle.lists.specs.Choice.{pick}
use Rattle.signal.specs.declared.kind.SignalEncoding.{SignalEncoding}
use Rattle.signal.specs.declared.kind.SignalEncoding.TheVariants.{BitVector, Real, Absent}
use Rattle.stream.specs.Stream.{Change, change, ChangeFits, change_bytes, read_change}
use Rattle.stream.specs.Entries.{Entry, entry}
use Rattle.image.specs.Block.{Part, Block, part, block}
use Rattle.image.specs.Head.{kind_number, head_size}
use Rattle.image.specs.Image.{Image, image, streamed_parts, blocks_bytes}
use Rattle.form.specs.Form.{Form, Whole, only, header, via, pair, repeat, each, byte, uint, exact, sized, chain}
use Rattle.codec.specs.Layout.{Layout, layout, layout_form, lengths_in}

-- ---- a stream

abbrev pub change_form : SignalEncoding → Form Change
change_form k = record { put = λ x. change_bytes k x.d x.content; get = read_change k; Ok = ChangeFits k }

-- a change after one at index i
abbrev pub entry_form : SignalEncoding → (i : ℕ) → Form Entry
entry_form k i = via (change_form k) (λ x. some (entry (i + x.d) x.content)) (λ e. change (e.index - i) e.content)

unfoldable pub stream : SignalEncoding → Whole (List Entry)
stream k = chain (entry_form k) (λ e. e.index) 0

-- ---- a block

abbrev pub top_and_stream : Option (Part (List Entry)) → ℕ × List Entry
top_and_stream none = (0, [])
top_and_stream (some p) = (p.top, p.stream)

-- one byte top class, then the stream, which has m bytes
abbrev pub part_form : SignalEncoding → Option ℕ → Form (Option (Part (List Entry)))
part_form k none = only none
part_form k (some m) = via (pair byte (sized m (stream k))) (λ x. some (some (part x.0 x.1))) top_and_stream

abbrev pub layout_of : List SignalEncoding → Block (List Entry) → Layout
layout_of ks b = layout (length b.times) (lengths_in (streamed_parts ks b.parts))

unfoldable pub block_form : List SignalEncoding → Form (Block (List Entry))
block_form ks =
    header (layout_form (length ks)) (layout_of ks)
    (λ l. via (pair (repeat l.count (uint 8)) (each part_form ks l.lens)) (λ x. some (block x.0 x.1)) (λ b. (b.times, b.parts)))

-- ---- the head

-- the kind of a number; no width is above 65,536
abbrev pub kind_of : ℕ → Option SignalEncoding
kind_of n = pick (leb n 65536) (some (BitVector n)) (pick (eqb n 0xfffffffe) (some Real) (pick (eqb n 0xffffffff) (some Absent) none))

abbrev pub kind_form : Form SignalEncoding
kind_form = via (uint 4) kind_of kind_number

pub record Head : Type 0 where
  pub limit : ℕ
  pub number : ℕ
  pub total : ℕ
  pub kinds : List SignalEncoding

-- signals S, B, blocks N, total bytes
abbrev pub Numbers : Type 0
Numbers = ℕ × (ℕ × (ℕ × ℕ))

abbrev pub numbers_of : Head → Numbers
numbers_of h = (length h.kinds, (h.limit, (h.number, h.total)))

abbrev pub head_from : Numbers → List SignalEncoding → Head
head_from r ks = record { limit = r.1.0; number = r.1.1.0; total = r.1.1.1; kinds = ks }

unfoldable pub head_form : Form Head
head_form =
    header (pair (uint 4) (pair (uint 4) (pair (uint 4) (uint 4)))) numbers_of
    (λ r. via (repeat r.0 kind_form) (λ ks. some (head_from r ks)) (λ h. h.kinds))

-- ---- the image

abbrev pub head_of : Image → Head
head_of x = record {
  limit = x.limit;
  number = length x.blocks;
  total = head_size (length x.kinds) + length (blocks_bytes x.kinds x.blocks);
  kinds = x.kinds;
}

-- N blocks that fill the total
unfoldable pub image_form : Form Image
image_form =
    header head_form head_of
    (λ h. via (exact (head_size (length h.kinds)) h.total (repeat h.number (block_form h.kinds))) (λ bs. some (image h.limit h.kinds bs)) (λ x. x.blocks))
