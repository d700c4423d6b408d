-- The bench sheet's image of 67 bytes, computed: what it means, and what its table, its signals, its streams and the cursor give. The
-- listing shows the same: times 10 and 20; signal 0 of class 0 with 1 at index 0; signal 1 of class 1 with 001x at 0 and 0001 at 1. And an
-- image of two blocks, with a repeat across them.
-- Assumes nothing.
use Prim.Native.Nat.{ℕ}
use mathlib.Core.Path.{◌≡◌, refl}
use mathlib.Core.List.{List, [], ◌∷◌, ◌++◌}
use mathlib.Core.Option.{some}
use Rattle.lists.specs.Last.{last_or}
use Rattle.numbers.specs.Leb128.{groups, leb_of, read_leb}
use Rattle.numbers.specs.LittleEndian.{le, unle}
use Rattle.value.specs.Class.{class_of_all, all_symbols}
use Rattle.packed.specs.Packed.{number_of, digits, packed, unpacked}
use Rattle.lists.specs.Same.{same}
use Rattle.signal.specs.Content.{symbols}
use Rattle.signal.specs.declared.kind.SignalEncoding.TheVariants.{BitVector}
use Rattle.stream.specs.Stream.{change_bytes, value_after, read_change}
use Rattle.stream.specs.Entries.{entry, stream_bytes}
use Rattle.image.specs.Block.{part, block, les, data_of, offsets_from, block_bytes}
use Rattle.image.specs.Head.{head_bytes}
use Rattle.image.specs.Image.{Image, image, streamed_parts, blocks_bytes, image_bytes}
use Rattle.form.specs.Form.{repeat, each, get_chain}
use Rattle.codec.specs.Layout.{lengths, layout_form}
use Rattle.codec.specs.ImageForm.{stream, block_form, head_form, image_form}
use Rattle.codec.specs.Valid.{rising_from?, rising?, each_below?, known_kinds?, content_fits?, entry_fits?, entries_fit?, part_fits?, parts_fit?, starts?, block_fits?, blocks_fit?, valid?}
use Rattle.codec.specs.Parse.{parse}
use Rattle.codec.proofs.Cases.{opened, of}
use Rattle.loaded.specs.Opener.{stream_of}
use Rattle.loaded.specs.Loading.{table_from, moved, repeats_last, pushed, load_from}
use Rattle.loaded.specs.EntryBytes.{entry_bytes, entries_bytes}
use Rattle.loaded.specs.Reader.{load_of, load_after, loaded, load_in, table_of, table_after, counted, table_in, cursor_of, cursor_after, found, nothing, event, vector, last_up_to, cursor_in}
use Rattle.loaded.specs.Reader as reader

-- widths 1 and 4, B 4; time 10, "1", "b1x"; time 20, second "b0001"
abbrev pub bench : Image
bench =
    image 4 (BitVector 1 ∷ BitVector 4 ∷ [])
    (block (10 ∷ 20 ∷ [])
    (some (part 0 (entry 0 (symbols (1 ∷ [])) ∷ []))
    ∷ some (part 1 (entry 0 (symbols (0 ∷ 0 ∷ 1 ∷ 2 ∷ [])) ∷ entry 1 (symbols (0 ∷ 0 ∷ 0 ∷ 1 ∷ [])) ∷ [])) ∷ []) ∷ [])

abbrev pub bench_bytes : List ℕ
bench_bytes =
    2 ∷ 0 ∷ 0 ∷ 0 ∷ 4 ∷ 0 ∷ 0 ∷ 0 ∷ 1 ∷ 0 ∷ 0 ∷ 0 ∷ 0x43 ∷ 0 ∷ 0 ∷ 0 ∷ 1 ∷ 0 ∷ 0 ∷ 0 ∷ 4 ∷ 0 ∷ 0 ∷ 0
    ∷ 0x2b ∷ 0 ∷ 0 ∷ 0 ∷ 2 ∷ 0 ∷ 0 ∷ 0 ∷ 2 ∷ 0 ∷ 0 ∷ 0 ∷ 1 ∷ 0 ∷ 0 ∷ 0 ∷ 3 ∷ 0 ∷ 0 ∷ 0
    ∷ 0x0a ∷ 0 ∷ 0 ∷ 0 ∷ 0 ∷ 0 ∷ 0 ∷ 0 ∷ 0x14 ∷ 0 ∷ 0 ∷ 0 ∷ 0 ∷ 0 ∷ 0 ∷ 0
    ∷ 0x00 ∷ 0x01 ∷ 0x01 ∷ 0x01 ∷ 0x06 ∷ 0x04 ∷ 0x01 ∷ []

pub bench-bytes : image_bytes bench ≡ bench_bytes
unfolding image_bytes blocks_bytes streamed_parts stream_bytes head_bytes block_bytes les data_of offsets_from le leb_of groups change_bytes class_of_all packed digits number_of
bench-bytes = refl

pub bench-parse : parse bench_bytes ≡ some bench
unfolding parse image_form head_form block_form layout_form repeat each lengths unle read_leb stream get_chain read_change value_after unpacked class_of_all all_symbols digits number_of last_or
    image_bytes blocks_bytes streamed_parts stream_bytes head_bytes block_bytes les data_of offsets_from le leb_of groups change_bytes packed rising_from? rising? each_below? known_kinds?
    content_fits? entry_fits? entries_fit? part_fits? parts_fit? starts? block_fits? blocks_fit? valid?
bench-parse = refl

-- the table; "signal 0 width 1 class 0 changes 1"; "signal 1 width 4 class 1 changes 2", where 001x is 40 06 and 0001 is 00 01
pub bench-table : table_of bench_bytes (9 ∷ 9 ∷ 9 ∷ []) ≡ table_after (counted 2) (10 ∷ 20 ∷ 9 ∷ [])
unfolding parse image_form head_form block_form layout_form repeat each lengths unle read_leb stream get_chain read_change value_after unpacked class_of_all all_symbols digits number_of last_or
    image_bytes blocks_bytes streamed_parts stream_bytes head_bytes block_bytes les data_of offsets_from le leb_of groups change_bytes packed rising_from? rising? each_below? known_kinds?
    content_fits? entry_fits? entries_fit? part_fits? parts_fit? starts? block_fits? blocks_fit? valid? table_from table_in
bench-table = refl

pub bench-loads : (load_of bench_bytes 0 (7 ∷ 7 ∷ []) (9 ∷ 9 ∷ []) ≡ load_after (loaded 1 0) (0 ∷ 7 ∷ []) (1 ∷ 9 ∷ []))
    × (load_of bench_bytes 1 (7 ∷ 7 ∷ 7 ∷ []) (9 ∷ 9 ∷ 9 ∷ 9 ∷ 9 ∷ []) ≡ load_after (loaded 2 1) (0 ∷ 1 ∷ 7 ∷ []) (0x40 ∷ 0x06 ∷ 0x00 ∷ 0x01 ∷ 9 ∷ []))
    -- 4, and 9 for either output; nothing is written
    × (load_of bench_bytes 2 (7 ∷ []) (9 ∷ []) ≡ load_after (reader.refuse 4) (7 ∷ []) (9 ∷ []))
    × (load_of bench_bytes 1 (7 ∷ []) (9 ∷ 9 ∷ 9 ∷ 9 ∷ []) ≡ load_after (reader.refuse 9) (7 ∷ []) (9 ∷ 9 ∷ 9 ∷ 9 ∷ []))
    × (load_of bench_bytes 1 (7 ∷ 7 ∷ []) (9 ∷ 9 ∷ 9 ∷ []) ≡ load_after (reader.refuse 9) (7 ∷ 7 ∷ []) (9 ∷ 9 ∷ 9 ∷ []))
unfolding parse image_form head_form block_form layout_form repeat each lengths unle read_leb stream get_chain read_change value_after unpacked class_of_all all_symbols digits number_of last_or
    image_bytes blocks_bytes streamed_parts stream_bytes head_bytes block_bytes les data_of offsets_from le leb_of groups change_bytes packed rising_from? rising? each_below? known_kinds?
    content_fits? entry_fits? entries_fit? part_fits? parts_fit? starts? block_fits? blocks_fit? valid? moved repeats_last pushed load_from entry_bytes entries_bytes load_in same
bench-loads = (refl, refl, refl, refl, refl)

-- the streams, without the class byte; none in a second block
pub bench-streams : (stream_of bench_bytes 0 0 ≡ 0x01 ∷ []) × (stream_of bench_bytes 0 1 ≡ 0x01 ∷ 0x06 ∷ 0x04 ∷ 0x01 ∷ []) × (stream_of bench_bytes 1 0 ≡ [])
unfolding parse image_form head_form block_form layout_form repeat each lengths unle read_leb stream get_chain read_change value_after unpacked class_of_all all_symbols digits number_of last_or
    image_bytes blocks_bytes streamed_parts stream_bytes head_bytes block_bytes les data_of offsets_from le leb_of groups change_bytes packed rising_from? rising? each_below? known_kinds?
    content_fits? entry_fits? entries_fit? part_fits? parts_fit? starts? block_fits? blocks_fit? valid? stream_of
bench-streams = (refl, refl, refl)

-- at 9, before the first change, none, and a buffer of just the width keeps what it holds; at 10 and 19 entry 0; at 20 entry 1; a buffer of
-- three bytes is too short, even for none
pub bench-cursor : (cursor_of bench_bytes 1 9 (7 ∷ 7 ∷ 7 ∷ 7 ∷ []) ≡ cursor_after nothing (7 ∷ 7 ∷ 7 ∷ 7 ∷ []))
    × (cursor_of bench_bytes 1 9 (7 ∷ 7 ∷ 7 ∷ []) ≡ cursor_after (reader.refuse 9) (7 ∷ 7 ∷ 7 ∷ []))
    × (cursor_of bench_bytes 1 10 (7 ∷ 7 ∷ 7 ∷ 7 ∷ 7 ∷ []) ≡ cursor_after (found 0 10 (vector 1 0)) (0 ∷ 0 ∷ 1 ∷ 2 ∷ 7 ∷ []))
    × (cursor_of bench_bytes 1 19 (7 ∷ 7 ∷ 7 ∷ 7 ∷ []) ≡ cursor_after (found 0 10 (vector 1 0)) (0 ∷ 0 ∷ 1 ∷ 2 ∷ []))
    × (cursor_of bench_bytes 1 20 (7 ∷ 7 ∷ 7 ∷ 7 ∷ []) ≡ cursor_after (found 1 20 (vector 0 0)) (0 ∷ 0 ∷ 0 ∷ 1 ∷ []))
    × (cursor_of bench_bytes 1 20 (7 ∷ 7 ∷ 7 ∷ []) ≡ cursor_after (reader.refuse 9) (7 ∷ 7 ∷ 7 ∷ []))
unfolding parse image_form head_form block_form layout_form repeat each lengths unle read_leb stream get_chain read_change value_after unpacked class_of_all all_symbols digits number_of last_or
    image_bytes blocks_bytes streamed_parts stream_bytes head_bytes block_bytes les data_of offsets_from le leb_of groups change_bytes packed rising_from? rising? each_below? known_kinds?
    content_fits? entry_fits? entries_fit? part_fits? parts_fit? starts? block_fits? blocks_fit? valid? moved repeats_last pushed load_from last_up_to cursor_in same
bench-cursor = (refl, refl, refl, refl, refl, refl)

-- a vector of width 1, an event, a vector of width 1, a real, an absent signal; B 2, times 1 2 and 2 3. The first vector: x at 1, 1 at 2,
-- and in the second block 1 and x at 3; the event at 2; the second vector x at 1
abbrev two_blocks : List ℕ
two_blocks =
    les 4 (5 ∷ 2 ∷ 2 ∷ 142 ∷ 1 ∷ 0 ∷ 1 ∷ 0xfffffffe ∷ 0xffffffff ∷ [])
    ++ (les 4 (55 ∷ 2 ∷ 5 ∷ 1 ∷ 4 ∷ 6 ∷ 0 ∷ 0 ∷ []) ++ (les 8 (1 ∷ 2 ∷ []) ++ ((0x01 ∷ 0x02 ∷ 0x11 ∷ 0x00 ∷ 0x01 ∷ 0x01 ∷ 0x02 ∷ [])
    ++ (les 4 (51 ∷ 2 ∷ 5 ∷ 1 ∷ 0 ∷ 0 ∷ 0 ∷ 0 ∷ []) ++ (les 8 (2 ∷ 3 ∷ []) ++ (0x01 ∷ 0x11 ∷ 0x02 ∷ []))))))

-- the second 1 repeats the first across the blocks; the class of a signal is that of all its blocks; a signal without changes is of class Nine; the table has its room exactly
pub blocks-load : (load_of two_blocks 0 (9 ∷ 9 ∷ 9 ∷ []) (9 ∷ 9 ∷ 9 ∷ []) ≡ load_after (loaded 3 1) (0 ∷ 1 ∷ 2 ∷ []) (0x42 ∷ 0x01 ∷ 0x42 ∷ []))
    × (load_of two_blocks 1 (9 ∷ []) [] ≡ load_after (loaded 1 0) (1 ∷ []) [])
    × (load_of two_blocks 2 (9 ∷ []) (9 ∷ []) ≡ load_after (loaded 1 1) (0 ∷ []) (0x42 ∷ []))
    × (load_of two_blocks 3 [] [] ≡ load_after (loaded 0 2) [] [])
    × (load_of two_blocks 4 [] [] ≡ load_after (reader.refuse 4) [] [])
    × (table_of two_blocks (9 ∷ 9 ∷ 9 ∷ []) ≡ table_after (counted 3) (1 ∷ 2 ∷ 3 ∷ []))
    × (table_of two_blocks (9 ∷ 9 ∷ []) ≡ table_after (reader.refuse 9) (9 ∷ 9 ∷ []))
    × (stream_of two_blocks 1 0 ≡ 0x11 ∷ 0x02 ∷ [])
unfolding parse image_form head_form block_form layout_form repeat each lengths unle read_leb stream get_chain read_change value_after unpacked class_of_all all_symbols digits number_of last_or
    image_bytes blocks_bytes streamed_parts stream_bytes head_bytes block_bytes les data_of offsets_from le leb_of groups change_bytes packed rising_from? rising? each_below? known_kinds?
    content_fits? entry_fits? entries_fit? part_fits? parts_fit? starts? block_fits? blocks_fit? valid? moved repeats_last pushed load_from entry_bytes entries_bytes load_in same table_from
    table_in stream_of
blocks-load = (refl, refl, refl, refl, refl, refl, refl, refl)

-- of the entries up to a time the last; an event before its first is none; an event and "none" leave the buffer
pub blocks-cursor : (cursor_of two_blocks 0 2 (9 ∷ []) ≡ cursor_after (found 1 2 (vector 0 0)) (1 ∷ []))
    × (cursor_of two_blocks 0 0xffffffffffffffff (9 ∷ 9 ∷ []) ≡ cursor_after (found 2 3 (vector 1 0)) (2 ∷ 9 ∷ []))
    × (cursor_of two_blocks 1 1 [] ≡ cursor_after nothing [])
    × (cursor_of two_blocks 1 2 (9 ∷ []) ≡ cursor_after (found 0 2 (event 0)) (9 ∷ []))
    × (cursor_of two_blocks 3 5 (9 ∷ []) ≡ cursor_after nothing (9 ∷ []))
    -- 4 of an absent signal, 11 of bytes that are no image
    × (cursor_of two_blocks 4 5 (9 ∷ []) ≡ cursor_after (reader.refuse 4) (9 ∷ []))
    × (cursor_of [] 0 5 (9 ∷ []) ≡ cursor_after (reader.refuse 11) (9 ∷ []))
unfolding parse image_form head_form block_form layout_form repeat each lengths unle read_leb stream get_chain read_change value_after unpacked class_of_all all_symbols digits number_of last_or
    image_bytes blocks_bytes streamed_parts stream_bytes head_bytes block_bytes les data_of offsets_from le leb_of groups change_bytes packed rising_from? rising? each_below? known_kinds?
    content_fits? entry_fits? entries_fit? part_fits? parts_fit? starts? block_fits? blocks_fit? valid? moved repeats_last pushed load_from entry_bytes entries_bytes load_in same last_up_to
    cursor_in
blocks-cursor = (refl, refl, refl, refl, refl, refl, refl)

-- width 1, B 2: at time 5 "1" and "0", of which the cursor shows the last
abbrev twice : List ℕ
twice = opened 2 (1 ∷ []) 1 (of (5 ∷ []) (1 ∷ []) (0x00 ∷ 0x01 ∷ 0x00 ∷ []))

pub twice-cursor : (cursor_of twice 0 4 (9 ∷ []) ≡ cursor_after nothing (9 ∷ [])) × (cursor_of twice 0 5 (9 ∷ []) ≡ cursor_after (found 1 5 (vector 0 0)) (0 ∷ []))
unfolding parse image_form head_form block_form layout_form repeat each lengths unle read_leb stream get_chain read_change value_after unpacked class_of_all all_symbols digits number_of last_or
    image_bytes blocks_bytes streamed_parts stream_bytes head_bytes block_bytes les data_of offsets_from le leb_of groups change_bytes packed rising_from? rising? each_below? known_kinds?
    content_fits? entry_fits? entries_fit? part_fits? parts_fit? starts? block_fits? blocks_fit? valid? moved repeats_last pushed load_from same last_up_to cursor_in
twice-cursor = (refl, refl)
