-- Reading an image from front to end, each test where its bytes stand: what the opener's loops are proved against.
-- Laws (proofs/WalkLaws): on bytes it finds what `parse` finds, and a block of it what the block's form and `BlockFits` find.
-- Assumes nothing.
use Rattle.std.specs.Prelude.{ℕ, zero, suc, ◌≤◌, ◌<◌, List, [], length}
use Rattle.std.proofs.Math.Option.{Option, some, none}
use Rattle.lists.specs.Last.{last_or}
use Rattle.signal.specs.declared.kind.SignalEncoding.{SignalEncoding}
use Rattle.signal.specs.Kind.{top_limit}
use Rattle.stream.specs.Entries.{Entry}
use Rattle.image.specs.Block.{Part, Block, part, block}
use Rattle.image.specs.Head.{head_size, image_limit}
use Rattle.image.specs.Image.{Image, image}
use Rattle.form.specs.Decide.{le?, lt?, both, map_dec}
use Rattle.form.specs.Form.{Form, Whole, only, header, via, guard, pair, cons_then, repeat, each, byte, uint, exact, sized, chain, such, closed}
use Rattle.codec.specs.Layout.{Layout, layout_form}
use Rattle.codec.specs.ImageForm.{entry_form, top_and_stream, layout_of, Head, head_form, head_of}
use Rattle.codec.specs.Valid.{Rising, EntryFits, Starts, rising?, entry_fits?, starts?}

-- ---- a stream, in a block of n times

-- a change after one at index i
abbrev pub walk_entry : SignalEncoding → (n top : ℕ) → (i : ℕ) → Form Entry
walk_entry k n top i = guard (entry_form k i) (EntryFits k n i top) (entry_fits? k n i top)

abbrev pub walk_stream : SignalEncoding → (n top : ℕ) → Whole (List Entry)
walk_stream k n top = such (chain (walk_entry k n top) (λ e. e.index) 0) (λ l. 0 < length l) (λ l. lt? 0 (length l))

-- ---- a block

-- the part of a signal, by its kind
abbrev pub walked_part : (n : ℕ) → SignalEncoding → Option ℕ → Form (Option (Part (List Entry)))
walked_part n k none = only none
walked_part n k (some m) =
    header (guard byte (λ t. t ≤ top_limit k) (λ t. le? t (top_limit k))) (λ p. (top_and_stream p).0)
    (λ t. via (sized m (walk_stream k n t)) (λ l. some (some (part t l))) (λ p. (top_and_stream p).1))

abbrev pub walk_layout : (limit signals : ℕ) → Form Layout
walk_layout limit s = guard (layout_form s) (λ l. (1 ≤ l.count) × (l.count ≤ limit)) (λ l. both (le? 1 l.count) (le? l.count limit))

abbrev pub walk_times : (end : Option ℕ) → (n : ℕ) → Form (List ℕ)
walk_times end n = guard (repeat n (uint 8)) (λ ts. Starts end ts × Rising ts) (λ ts. both (starts? end ts) (rising? ts))

-- layout with its number of times, times, part by part
unfoldable pub walk_block : (limit : ℕ) → List SignalEncoding → (end : Option ℕ) → Form (Block (List Entry))
walk_block limit ks end =
    header (walk_layout limit (length ks)) (layout_of ks)
    (λ l. via (pair (walk_times end l.count) (each (walked_part l.count) ks l.lens))
    (λ x. some (block x.0 x.1)) (λ b. (b.times, b.parts)))

-- ---- the image

-- n blocks, the first after one that ended with `end`, if any
unfoldable pub walk_blocks : (limit : ℕ) → List SignalEncoding → (n : ℕ) → (end : Option ℕ) → Form (List (Block (List Entry)))
walk_blocks limit ks zero end = only []
walk_blocks limit ks (suc n) end = cons_then (walk_block limit ks end) (λ b. walk_blocks limit ks n (some (last_or 0 b.times)))

pub record HeadFits (h : Head) : Type 0 where
  pub low : 2 ≤ h.limit
  pub high : h.limit ≤ 65535
  pub signals : length h.kinds ≤ 65536
  pub total : h.total ≤ image_limit

unfoldable pub head_fits? : (h : Head) → Dec (HeadFits h)
head_fits? h =
    map_dec (λ q. record { low = q.0; high = q.1.0; signals = q.1.1.0; total = q.1.1.1 }) (λ r. (r.low, (r.high, (r.signals, r.total))))
    (both (le? 2 h.limit) (both (le? h.limit 65535) (both (le? (length h.kinds) 65536) (le? h.total image_limit))))

-- the head, then its blocks, which fill the total
unfoldable pub walk_form : Form Image
walk_form =
    header (guard head_form HeadFits head_fits?) head_of
    (λ h. via (exact (head_size (length h.kinds)) h.total (walk_blocks h.limit h.kinds h.number none))
    (λ bs. some (image h.limit h.kinds bs)) (λ x. x.blocks))

unfoldable pub walk : List ℕ → Option Image
walk b = (closed walk_form).read b
