-- An image of at most 16,384 bytes has few signals, blocks, times and entries, and its listing has at most sixteen times its bytes.
-- Assumes nothing.
use Prim.Native.Nat.{ℕ, zero, suc, ◌+◌, ◌*◌, ◌≤◌}
use mathlib.Core.Path.{◌≡◌, refl, sym, ap, ◌∙◌, subst}
use mathlib.Core.Bool.{Bool, true, false}
use mathlib.Core.List.{List, [], ◌∷◌, ◌++◌}
use mathlib.Core.Option.{Option, some, none}
use native.Mathlib.Nat.{zero-add, mul-le-mul}
use native.Mathlib.Omega.{arith}
use borrow.Author.Tests.{leb-true}
use lib.Dec.{leb}
use lib.ListN.{length, get_or, drop, length-append}
use Rattle.lists.specs.Choice.{pick}
use Rattle.lists.specs.Bytes.{Bytes}
use Rattle.signal.specs.declared.kind.SignalEncoding.{SignalEncoding}
use Rattle.signal.specs.declared.kind.SignalEncoding.TheVariants.{Absent}
use Rattle.stream.specs.Entries.{Entry}
use Rattle.lists.specs.Last.{last_or}
use Rattle.image.specs.Block.{Part, Block, part_bytes, data_of, block_bytes}
use Rattle.image.specs.Image.{Image, streamed_part, streamed_parts, streamed, blocks_bytes, image_bytes}
use Rattle.image.proofs.SizeLaws.{block_size_lem}
use Rattle.codec.specs.Valid.{BlocksFit, Valid}
use Rattle.codec.specs.Parse.{parse}
use Rattle.codec.proofs.Growth.{parts-count}
use Rattle.codec.proofs.ImageFits.{image-size, known_at}
use Rattle.codec.proofs.Trip.{parse-is}
use Rattle.loaded.specs.Opener.{kind_at, stream_in}
use Rattle.loaded.specs.Loading.{join_times, table_from, loads, signal_class}
use Rattle.loaded.specs.EntryBytes.{entries_bytes}
use Rattle.loaded.proofs.TableLaws.{joined_length}
use Rattle.entry.specs.Length.{entry_length}
use Rattle.entry.proofs.EntriesLaws.{entries-length}
use Rattle.loader_measure.specs.Least.{least_length, streams_length}
use Rattle.loader_measure.proofs.LeastLaws.{least-any, entry-most}
use Rattle.walk_part.proofs.RoomLaws.{stream-data}
use Rattle.loader.proofs.KeptLaws.{EachKept, class-most, each-kept, kept-fits, kept-least}
use Rattle.listing_text.specs.Listing.{head_line, time_lines, signal_line, entry_line, entry_lines, signal_lines, signals_from, image_text, text_of, input_limit, listing_of, listing_limit}
use Rattle.listing_text.proofs.LengthLaws.{head-line, time-lines, signal-line, entry-line}

-- at most 16,384 bytes
abbrev pub Small : Image → Type 0
Small x = length (image_bytes x) ≤ input_limit

-- ---- the bytes of all blocks

unfoldable times_in : List (Block (List Entry)) → ℕ
times_in [] = 0
times_in (y ∷ bs) = length y.times + times_in bs

-- those of the data for the kinds of the signals from number g on
unfoldable data_from : (g : ℕ) → List SignalEncoding → List (Block (List Entry)) → ℕ
data_from g ks [] = 0
data_from g ks (y ∷ bs) = length (data_of (streamed_parts ks (drop g y.parts))) + data_from g ks bs

blocks-least : (ks : List SignalEncoding) (bs : List (Block (List Entry))) → 12 * length bs + 8 * times_in bs + data_from 0 ks bs ≤ length (blocks_bytes ks bs)
unfolding times_in data_from blocks_bytes
blocks-least ks [] = omega arith
blocks-least ks (y ∷ bs) =
    omega (arith, length-append (block_bytes (streamed ks y)) (blocks_bytes ks bs), block_size_lem (streamed ks y), blocks-least ks bs)

table-most : (l : List ℕ) (bs : List (Block (List Entry))) → length (table_from l bs) ≤ length l + times_in bs
unfolding table_from times_in
table-most l [] = omega arith
table-most l (y ∷ bs) = omega (arith, table-most (join_times l y.times) bs, joined_length l y.times)

module _ (x : Image) (z : Small x) where
  pub signals-few : length x.kinds ≤ 4092
  signals-few = omega (arith, image-size x)

  pub table-few : length (table_from [] x.blocks) ≤ 2048
  table-few = omega (arith, image-size x, blocks-least x.kinds x.blocks, table-most [] x.blocks)

-- ---- the streams of one signal

stream-part : (k : SignalEncoding) (p : Option (Part (List Entry))) → length (stream_in k p) ≤ length (part_bytes (streamed_part k p))
stream-part k none = omega arith
stream-part k (some p) = omega arith

streams-data : (limit : ℕ) (ks : List SignalEncoding) (g : ℕ) (end : Option ℕ) (bs : List (Block (List Entry))) → BlocksFit limit ks end bs
    → streams_length (get_or ks g Absent) g bs ≤ data_from 0 ks bs
unfolding streams_length data_from
streams-data limit ks g end [] f = omega arith
streams-data limit ks g end (y ∷ bs) f =
    omega (arith, stream-data ks y.parts g (parts-count _ ks y.parts f.1.0.parts), streams-data limit ks g (some (last_or 0 y.times)) bs f.1.1)

-- the first signal's streams, and the data of those after it
data-part : (k : SignalEncoding) (ks : List SignalEncoding) (g : ℕ) (ps : List (Option (Part (List Entry))))
    → length (stream_in k (get_or ps g none)) + length (data_of (streamed_parts ks (drop (suc g) ps))) ≤ length (data_of (streamed_parts (k ∷ ks) (drop g ps)))
unfolding data_of streamed_parts
data-part k ks zero [] = omega arith
data-part k ks (suc g) [] = omega arith
data-part k ks zero (p ∷ ps) = omega (arith, stream-part k p, length-append (part_bytes (streamed_part k p)) (data_of (streamed_parts ks ps)))
data-part k ks (suc g) (p ∷ ps) = data-part k ks g ps

data-next : (k : SignalEncoding) (ks : List SignalEncoding) (g : ℕ) (bs : List (Block (List Entry))) → streams_length k g bs + data_from (suc g) ks bs ≤ data_from g (k ∷ ks) bs
unfolding streams_length data_from
data-next k ks g [] = omega arith
data-next k ks g (y ∷ bs) = omega (arith, data-part k ks g y.parts, data-next k ks g bs)

-- ---- the kept entries

-- a change has a byte
count_most : (k : SignalEncoding) (n m : ℕ) → n * least_length k ≤ m → n ≤ m
count_most k n m h = let q : n * 1 ≤ n * least_length k = mul-le-mul (omega arith) (least-any k) in omega arith

module _ (x : Image) (v : Valid x) (z : Small x) (g : ℕ) where
  streams-few : streams_length (kind_at x g) g x.blocks ≤ 16384
  streams-few = omega (arith, image-size x, blocks-least x.kinds x.blocks, streams-data x.limit x.kinds g none x.blocks v.blocks)

  pub entries-few : length (loads g x.blocks).entries ≤ 16384
  entries-few = count_most (kind_at x g) (length (loads g x.blocks).entries) 16384 (omega (arith, kept-least x v g, streams-few))

  pub bytes-few : length (entries_bytes (kind_at x g) (signal_class (loads g x.blocks)) (loads g x.blocks).entries) ≤ 65536
  bytes-few =
      let k : SignalEncoding = kind_at x g in
      let c : ℕ = signal_class (loads g x.blocks) in
      let n : ℕ = length (loads g x.blocks).entries in
      let s : length (entries_bytes k c (loads g x.blocks).entries) ≡ n * entry_length k c =
      entries-length k c (loads g x.blocks).entries (kept-fits x v g) (class-most x v g) in
      let m : n * entry_length k c ≤ n * (4 * least_length k) = mul-le-mul (omega arith) (entry-most k c (class-most x v g)) in
      omega (arith, kept-least x v g, streams-few)

-- ---- the text

entry-lines : (k : SignalEncoding) (c n : ℕ) (es : List Entry) → EachKept k c n es → n ≤ 2048 → length (entry_lines es) ≤ 16 * (length es * least_length k)
unfolding entry_lines
entry-lines k c n [] f h = omega arith
entry-lines k c n (e ∷ es) f h =
    let l = entry-line k e f.0.content (omega (arith, f.0.inside)) in
    let r = entry-lines k c n es f.1 h in
    omega (arith, length-append (entry_line e) (entry_lines es))

joined-most : (a b c : List ℕ) (m : ℕ) → length a + length b + length c ≤ m → length (a ++ b ++ c) ≤ m
joined-most a b c m h = omega (arith, length-append (a ++ b) c, length-append a b)

module _ (x : Image) (v : Valid x) (z : Small x) where
  signal-lines : (g : ℕ) → g ≤ 4092 → length (signal_lines g (kind_at x g) (loads g x.blocks)) ≤ 64 + 16 * streams_length (kind_at x g) g x.blocks
  signal-lines g h =
      let k : SignalEncoding = kind_at x g in
      let es : List Entry = (loads g x.blocks).entries in
      let c : ℕ = signal_class (loads g x.blocks) in
      let a = signal-line g k c (length es) (omega arith) (known_at x.kinds g v.kinds) (class-most x v g) (omega (arith, entries-few x v z g)) in
      let b = entry-lines k c _ es (each-kept x v g) (table-few x z) in
      omega (arith, length-append (signal_line g k c (length es)) (entry_lines es), kept-least x v g)

  signals-text : (g : ℕ) (ks : List SignalEncoding) → ((i : ℕ) → get_or ks i Absent ≡ get_or x.kinds (g + i) Absent) → g + length ks ≤ 4092
      → length (signals_from x g ks) ≤ 64 * length ks + 16 * data_from g ks x.blocks
  unfolding signals_from
  signals-text g [] h m = omega arith
  signals-text g (k ∷ ks) h m =
      let zero_more : g + 0 ≡ g = omega arith in
      let same : k ≡ kind_at x g = h 0 ∙ ap (λ (i : ℕ). get_or x.kinds i Absent) zero_more in
      let here : length (signal_lines g k (loads g x.blocks)) ≤ 64 + 16 * streams_length k g x.blocks =
      subst (λ (q : SignalEncoding). length (signal_lines g q (loads g x.blocks)) ≤ 64 + 16 * streams_length q g x.blocks) (sym same) (signal-lines g (omega arith)) in
      let rest = signals-text (suc g) ks (λ i. h (suc i) ∙ ap (λ (j : ℕ). get_or x.kinds j Absent) (one_later i)) (omega arith) in
      omega (arith, length-append (signal_lines g k (loads g x.blocks)) (signals_from x (suc g) ks), data-next k ks g x.blocks)
    where
      one_later : (i : ℕ) → g + suc i ≡ suc g + i
      one_later i = omega arith

  pub text-fits : length (image_text x) ≤ listing_limit
  unfolding image_text
  text-fits =
      let ts : List ℕ = table_from [] x.blocks in
      let ks : List SignalEncoding = x.kinds in
      let h = head-line (length ks) (length ts) (length x.blocks) in
      let t = time-lines 0 ts in
      let s = signals-text 0 ks (λ i. ap (λ (j : ℕ). get_or ks j Absent) (sym (zero-add i))) (omega (arith, signals-few x z)) in
      joined-most (head_line (length ks) (length ts) (length x.blocks)) (time_lines 0 ts) (signals_from x 0 ks) listing_limit
      (omega (arith, image-size x, blocks-least x.kinds x.blocks, table-most [] x.blocks))

-- for any bytes, the refusal included
pub listing-fits : (b : List ℕ) → Bytes b → length (listing_of b) ≤ listing_limit
unfolding listing_of
listing-fits b y = by (leb (length b) input_limit) (parse b) refl refl
  where
    by : (t : Bool) (p : Option Image) → leb (length b) input_limit ≡ t → parse b ≡ p → length (pick t (text_of p) (text_of none)) ≤ listing_limit
    by true none e f = omega arith
    by true (some x) e f = let m = parse-is b x y f in text-fits x m.valid (omega (arith, leb-true (length b) input_limit e, ap length m.bytes))
    by false p e f = omega arith
