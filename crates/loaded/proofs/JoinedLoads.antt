-- What joined images load as, computed: document 02, 'Joining two recordings'. Indices are places of times in the combined table, whatever
-- block they stand in; the class is the largest of all blocks; repeats are dropped over a seam.
-- Assumes nothing.
use Prim.Native.Nat.{ℕ}
use mathlib.Core.Path.{◌≡◌, refl}
use mathlib.Core.List.{List, [], ◌∷◌, ◌++◌}
use Rattle.lists.specs.Last.{last_or}
use Rattle.numbers.specs.Leb128.{groups, leb_of, read_leb}
use Rattle.numbers.specs.LittleEndian.{le, unle}
use Rattle.value.specs.Class.{class_of_all, all_symbols}
use Rattle.packed.specs.Packed.{number_of, digits, packed, unpacked}
use Rattle.lists.specs.Same.{same}
use Rattle.stream.specs.Stream.{change_bytes, value_after, read_change}
use Rattle.stream.specs.Entries.{stream_bytes}
use Rattle.image.specs.Block.{les, data_of, offsets_from, block_bytes}
use Rattle.image.specs.Head.{head_bytes}
use Rattle.image.specs.Image.{streamed_parts, blocks_bytes, image_bytes}
use Rattle.form.specs.Form.{repeat, each, get_chain}
use Rattle.codec.specs.Layout.{lengths, layout_form}
use Rattle.codec.specs.ImageForm.{stream, block_form, head_form, image_form}
use Rattle.codec.specs.Valid.{rising_from?, rising?, each_below?, known_kinds?, content_fits?, entry_fits?, entries_fit?, part_fits?, parts_fit?, starts?, block_fits?, blocks_fit?, valid?}
use Rattle.codec.specs.Parse.{parse}
use Rattle.codec.proofs.Cases.{opened, of}
use Rattle.loaded.specs.Loading.{table_from, moved, repeats_last, pushed, load_from}
use Rattle.loaded.specs.EntryBytes.{entry_bytes, entries_bytes}
use Rattle.loaded.specs.Reader.{load_of, load_after, loaded, load_in, table_of, table_after, counted, table_in, cursor_of, cursor_after, found, nothing, event, vector, last_up_to, cursor_in}

-- widths 1 and 2, B 4. Time 1, "1" to signal 0; time 5, raw 11 with the claim 2 to signal 1. After it: time 5, "1" and "11"; time 9, "0" to signal 0
abbrev both : List ℕ
both =
    opened 4 (1 ∷ 2 ∷ []) 2
    (of (1 ∷ 5 ∷ []) (1 ∷ 3 ∷ []) (0x00 ∷ 0x01 ∷ 0x02 ∷ 0x04 ∷ 0x03 ∷ []) ++ of (5 ∷ 9 ∷ []) (1 ∷ 4 ∷ []) (0x00 ∷ 0x01 ∷ 0x10 ∷ 0x00 ∷ 0x00 ∷ 0x03 ∷ []))

-- 5 stands once; signal 1 is of class 2, though its last class byte is 0, and its second 11 repeats the first over the seam
pub both-load : (table_of both (8 ∷ 8 ∷ 8 ∷ 8 ∷ []) ≡ table_after (counted 3) (1 ∷ 5 ∷ 9 ∷ 8 ∷ []))
    × (load_of both 0 (7 ∷ 7 ∷ 7 ∷ []) (9 ∷ 9 ∷ 9 ∷ []) ≡ load_after (loaded 2 0) (0 ∷ 2 ∷ 7 ∷ []) (0x01 ∷ 0x00 ∷ 9 ∷ []))
    × (load_of both 1 (7 ∷ 7 ∷ []) (9 ∷ 9 ∷ 9 ∷ []) ≡ load_after (loaded 1 2) (1 ∷ 7 ∷ []) (0x00 ∷ 0x03 ∷ 9 ∷ []))
unfolding parse image_form head_form block_form layout_form repeat each lengths unle read_leb stream get_chain read_change value_after unpacked class_of_all all_symbols digits number_of last_or
    image_bytes blocks_bytes streamed_parts stream_bytes head_bytes block_bytes les data_of offsets_from le leb_of groups change_bytes packed rising_from? rising? each_below? known_kinds?
    content_fits? entry_fits? entries_fit? part_fits? parts_fit? starts? block_fits? blocks_fit? valid? table_from table_in moved repeats_last pushed load_from entry_bytes entries_bytes load_in
    same
both-load = (refl, refl, refl)

-- B 2, an event at time 5, three times: one time, three entries at it, of which the cursor finds the last
abbrev five_thrice : List ℕ
five_thrice =
    opened 2 (0 ∷ []) 3 (of (5 ∷ []) (1 ∷ []) (0x00 ∷ 0x00 ∷ []) ++ (of (5 ∷ []) (1 ∷ []) (0x00 ∷ 0x00 ∷ []) ++ of (5 ∷ []) (1 ∷ []) (0x00 ∷ 0x00 ∷ [])))

pub five-load : (table_of five_thrice (8 ∷ 8 ∷ []) ≡ table_after (counted 1) (5 ∷ 8 ∷ []))
    × (load_of five_thrice 0 (7 ∷ 7 ∷ 7 ∷ 7 ∷ []) [] ≡ load_after (loaded 3 0) (0 ∷ 0 ∷ 0 ∷ 7 ∷ []) [])
    × (cursor_of five_thrice 0 4 [] ≡ cursor_after nothing [])
    × (cursor_of five_thrice 0 5 [] ≡ cursor_after (found 2 5 (event 0)) [])
unfolding parse image_form head_form block_form layout_form repeat each lengths unle read_leb stream get_chain read_change value_after unpacked class_of_all all_symbols digits number_of last_or
    image_bytes blocks_bytes streamed_parts stream_bytes head_bytes block_bytes les data_of offsets_from le leb_of groups change_bytes packed rising_from? rising? each_below? known_kinds?
    content_fits? entry_fits? entries_fit? part_fits? parts_fit? starts? block_fits? blocks_fit? valid? table_from table_in moved repeats_last pushed load_from entry_bytes entries_bytes load_in
    last_up_to cursor_in same
five-load = (refl, refl, refl, refl)

-- width 1, B 2: time 1, "0", time 2; after a gap time 7, "x". At 6 the cursor is still on entry 0
abbrev gap : List ℕ
gap = opened 2 (1 ∷ []) 2 (of (1 ∷ 2 ∷ []) (1 ∷ []) (0x00 ∷ 0x00 ∷ []) ++ of (7 ∷ []) (1 ∷ []) (0x01 ∷ 0x02 ∷ []))

pub gap-load : (table_of gap (8 ∷ 8 ∷ 8 ∷ []) ≡ table_after (counted 3) (1 ∷ 2 ∷ 7 ∷ []))
    × (load_of gap 0 (7 ∷ 7 ∷ []) (9 ∷ 9 ∷ []) ≡ load_after (loaded 2 1) (0 ∷ 2 ∷ []) (0x00 ∷ 0x42 ∷ []))
    × (cursor_of gap 0 6 (9 ∷ []) ≡ cursor_after (found 0 1 (vector 0 0)) (0 ∷ []))
    × (cursor_of gap 0 7 (9 ∷ []) ≡ cursor_after (found 1 7 (vector 1 0)) (2 ∷ []))
unfolding parse image_form head_form block_form layout_form repeat each lengths unle read_leb stream get_chain read_change value_after unpacked class_of_all all_symbols digits number_of last_or
    image_bytes blocks_bytes streamed_parts stream_bytes head_bytes block_bytes les data_of offsets_from le leb_of groups change_bytes packed rising_from? rising? each_below? known_kinds?
    content_fits? entry_fits? entries_fit? part_fits? parts_fit? starts? block_fits? blocks_fit? valid? table_from table_in moved repeats_last pushed load_from entry_bytes entries_bytes load_in
    last_up_to cursor_in same
gap-load = (refl, refl, refl, refl)
