-- Joins, computed: document 02, 'Joining two recordings'.
-- Assumes nothing.
use Prim.Native.Nat.{ℕ}
use mathlib.Core.Path.{◌≡◌, refl}
use mathlib.Core.List.{List, [], ◌∷◌, ◌++◌}
use lib.ListN.{replicate, take}
use Rattle.lists.specs.Last.{last_or}
use Rattle.lists.specs.Same.{same}
use Rattle.numbers.specs.Leb128.{groups, leb_of, read_leb}
use Rattle.numbers.specs.LittleEndian.{le, unle}
use Rattle.value.specs.Class.{class_of_all, all_symbols}
use Rattle.packed.specs.Packed.{number_of, digits, packed, unpacked}
use Rattle.stream.specs.Stream.{change_bytes, value_after, read_change}
use Rattle.stream.specs.Entries.{stream_bytes}
use Rattle.image.specs.Block.{les, data_of, offsets_from, block_bytes}
use Rattle.image.specs.Head.{head_bytes}
use Rattle.image.specs.Image.{streamed_parts, blocks_bytes, image_bytes}
use Rattle.form.specs.Form.{repeat, each, get_chain}
use Rattle.codec.specs.Layout.{lengths, layout_form}
use Rattle.codec.specs.ImageForm.{stream, block_form, head_form, image_form}
use Rattle.codec.specs.Valid.{rising_from?, rising?, each_below?, known_kinds?, content_fits?, entry_fits?, entries_fit?, part_fits?, parts_fit?, starts?, block_fits?, blocks_fit?, valid?}
use Rattle.codec.specs.Ends.{end_after}
use Rattle.codec.specs.Parse.{parse}
use Rattle.codec.proofs.Cases.{opened, of}
use Rattle.joined.specs.Join.{refuse, joined, join_after, join_in, join_of}

-- an output of so many bytes
abbrev pub room : ℕ → List ℕ
room n = replicate n 0x77

-- ---- what is written

-- widths 1 and 2, B 4. Time 1, "1" to signal 0; time 5, raw 11 with the claim 2 to signal 1
abbrev first : List ℕ
first = opened 4 (1 ∷ 2 ∷ []) 1 (of (1 ∷ 5 ∷ []) (1 ∷ 3 ∷ []) (0x00 ∷ 0x01 ∷ 0x02 ∷ 0x04 ∷ 0x03 ∷ []))

-- time 5, "1" to signal 0, "11" to signal 1; time 9, "0" to signal 0
abbrev second : List ℕ
second = opened 4 (1 ∷ 2 ∷ []) 1 (of (5 ∷ 9 ∷ []) (1 ∷ 4 ∷ []) (0x00 ∷ 0x01 ∷ 0x10 ∷ 0x00 ∷ 0x00 ∷ 0x03 ∷ []))

abbrev both : List ℕ
both =
    2 ∷ 0 ∷ 0 ∷ 0 ∷ 4 ∷ 0 ∷ 0 ∷ 0 ∷ 2 ∷ 0 ∷ 0 ∷ 0 ∷ 0x6b ∷ 0 ∷ 0 ∷ 0 ∷ 1 ∷ 0 ∷ 0 ∷ 0 ∷ 2 ∷ 0 ∷ 0 ∷ 0
    ∷ 0x29 ∷ 0 ∷ 0 ∷ 0 ∷ 2 ∷ 0 ∷ 0 ∷ 0 ∷ 2 ∷ 0 ∷ 0 ∷ 0 ∷ 1 ∷ 0 ∷ 0 ∷ 0 ∷ 3 ∷ 0 ∷ 0 ∷ 0
    ∷ 1 ∷ 0 ∷ 0 ∷ 0 ∷ 0 ∷ 0 ∷ 0 ∷ 0 ∷ 5 ∷ 0 ∷ 0 ∷ 0 ∷ 0 ∷ 0 ∷ 0 ∷ 0 ∷ 0x00 ∷ 0x01 ∷ 0x02 ∷ 0x04 ∷ 0x03
    ∷ 0x2a ∷ 0 ∷ 0 ∷ 0 ∷ 2 ∷ 0 ∷ 0 ∷ 0 ∷ 2 ∷ 0 ∷ 0 ∷ 0 ∷ 1 ∷ 0 ∷ 0 ∷ 0 ∷ 4 ∷ 0 ∷ 0 ∷ 0
    ∷ 5 ∷ 0 ∷ 0 ∷ 0 ∷ 0 ∷ 0 ∷ 0 ∷ 0 ∷ 9 ∷ 0 ∷ 0 ∷ 0 ∷ 0 ∷ 0 ∷ 0 ∷ 0 ∷ 0x00 ∷ 0x01 ∷ 0x10 ∷ 0x00 ∷ 0x00 ∷ 0x03 ∷ []

-- 107 bytes, and the output's last byte stays; an output that is just long enough; one byte fewer
pub both-joined : (join_of first second (room 108) ≡ join_after (joined 107) (both ++ 0x77 ∷ []))
    × (join_of first second (room 107) ≡ join_after (joined 107) both)
    × (join_of first second (room 106) ≡ join_after (refuse 8) (room 106))
unfolding parse image_form head_form block_form layout_form repeat each lengths unle read_leb stream get_chain read_change value_after unpacked class_of_all all_symbols digits number_of last_or
    image_bytes blocks_bytes streamed_parts stream_bytes head_bytes block_bytes les data_of offsets_from le leb_of groups change_bytes packed rising_from? rising? each_below? known_kinds?
    content_fits? entry_fits? entries_fit? part_fits? parts_fit? starts? block_fits? blocks_fit? valid? same end_after join_in
both-joined = (refl, refl, refl)

-- an event, B 2: time 5, the event
abbrev five : List ℕ
five = opened 2 (0 ∷ []) 1 (of (5 ∷ []) (1 ∷ []) (0x00 ∷ 0x00 ∷ []))

abbrev five_twice : List ℕ
five_twice = take 72 (join_of five five (room 72)).out

-- three of one time: 98 bytes, three blocks that all start at 5
pub five-joined : join_of five_twice five (room 98)
    ≡ join_after (joined 98) (opened 2 (0 ∷ []) 3 (of (5 ∷ []) (1 ∷ []) (0x00 ∷ 0x00 ∷ []) ++ (of (5 ∷ []) (1 ∷ []) (0x00 ∷ 0x00 ∷ []) ++ of (5 ∷ []) (1 ∷ []) (0x00 ∷ 0x00 ∷ []))))
unfolding parse image_form head_form block_form layout_form repeat each lengths unle read_leb stream get_chain read_change value_after unpacked class_of_all all_symbols digits number_of last_or
    image_bytes blocks_bytes streamed_parts stream_bytes head_bytes block_bytes les data_of offsets_from le leb_of groups change_bytes packed rising_from? rising? each_below? known_kinds?
    content_fits? entry_fits? entries_fit? part_fits? parts_fit? starts? block_fits? blocks_fit? valid? same end_after join_in
five-joined = refl

-- ---- refusals, in their order; a refused join leaves the output

-- width 1, B 2: time 1, "0", time 2; and time 7, "x"
abbrev early : List ℕ
early = opened 2 (1 ∷ []) 1 (of (1 ∷ 2 ∷ []) (1 ∷ []) (0x00 ∷ 0x00 ∷ []))

abbrev late : List ℕ
late = opened 2 (1 ∷ []) 1 (of (7 ∷ []) (1 ∷ []) (0x01 ∷ 0x02 ∷ []))

-- one time
abbrev pub at : ℕ → List ℕ
at t = opened 2 (1 ∷ []) 1 (of (t ∷ []) (0 ∷ []) [])

-- without blocks
abbrev pub empty : (limit : ℕ) (kinds : List ℕ) → List ℕ
empty limit kinds = opened limit kinds 0 []

-- 11 for either, before 14
pub no-image : (join_of [] late (room 1) ≡ join_after (refuse 11) (room 1))
    × (join_of early (late ++ 0 ∷ []) (room 1) ≡ join_after (refuse 11) (room 1))
    × (join_of (early ++ 0 ∷ []) (empty 3 []) (room 1) ≡ join_after (refuse 11) (room 1))
unfolding parse image_form head_form block_form layout_form repeat each lengths unle read_leb stream get_chain read_change value_after unpacked class_of_all all_symbols digits number_of last_or
    image_bytes blocks_bytes streamed_parts stream_bytes head_bytes block_bytes les data_of offsets_from le leb_of groups change_bytes packed rising_from? rising? each_below? known_kinds?
    content_fits? entry_fits? entries_fit? part_fits? parts_fit? starts? block_fits? blocks_fit? valid? same end_after join_in
no-image = (refl, refl, refl)

-- 14 for S, B or a kind, before 15 and 16
pub unlike : (join_of early (empty 2 []) (room 1) ≡ join_after (refuse 14) (room 1))
    × (join_of early (empty 3 (1 ∷ [])) (room 1) ≡ join_after (refuse 14) (room 1))
    × (join_of early (empty 2 (2 ∷ [])) (room 1) ≡ join_after (refuse 14) (room 1))
    × (join_of (empty 2 (0 ∷ [])) (empty 2 (1 ∷ [])) (room 1) ≡ join_after (refuse 14) (room 1))
    × (join_of late five (room 1) ≡ join_after (refuse 14) (room 1))
unfolding parse image_form head_form block_form layout_form repeat each lengths unle read_leb stream get_chain read_change value_after unpacked class_of_all all_symbols digits number_of last_or
    image_bytes blocks_bytes streamed_parts stream_bytes head_bytes block_bytes les data_of offsets_from le leb_of groups change_bytes packed rising_from? rising? each_below? known_kinds?
    content_fits? entry_fits? entries_fit? part_fits? parts_fit? starts? block_fits? blocks_fit? valid? same end_after join_in
unlike = (refl, refl, refl, refl, refl)

-- 15 where the first has no block, whatever the second has
pub no_block : (join_of (empty 2 (1 ∷ [])) (empty 2 (1 ∷ [])) [] ≡ join_after (refuse 15) [])
    × (join_of (empty 2 (1 ∷ [])) early [] ≡ join_after (refuse 15) [])
unfolding parse image_form head_form block_form layout_form repeat each lengths unle read_leb stream get_chain read_change value_after unpacked class_of_all all_symbols digits number_of last_or
    image_bytes blocks_bytes streamed_parts stream_bytes head_bytes block_bytes les data_of offsets_from le leb_of groups change_bytes packed rising_from? rising? each_below? known_kinds?
    content_fits? entry_fits? entries_fit? part_fits? parts_fit? starts? block_fits? blocks_fit? valid? same end_after join_in
no_block = (refl, refl)

-- 16 where the second starts before the first's end, before 8; at the end it may start, and after it
pub overlaps : (join_of late early [] ≡ join_after (refuse 16) [])
    × (join_of early (at 1) (room 100) ≡ join_after (refuse 16) (room 100))
    × ((join_of early (at 2) (room 78)).reply ≡ joined 78)
    × (join_of early late (room 79) ≡ join_after (refuse 8) (room 79))
    × ((join_of early late (room 80)).reply ≡ joined 80)
unfolding parse image_form head_form block_form layout_form repeat each lengths unle read_leb stream get_chain read_change value_after unpacked class_of_all all_symbols digits number_of last_or
    image_bytes blocks_bytes streamed_parts stream_bytes head_bytes block_bytes les data_of offsets_from le leb_of groups change_bytes packed rising_from? rising? each_below? known_kinds?
    content_fits? entry_fits? entries_fit? part_fits? parts_fit? starts? block_fits? blocks_fit? valid? same end_after join_in
overlaps = (refl, refl, refl, refl, refl)

-- an empty second image gives the first, and 8 where that does not fit
pub empty-second : (join_of early (empty 2 (1 ∷ [])) (room 55) ≡ join_after (joined 54) (early ++ 0x77 ∷ []))
    × (join_of early (empty 2 (1 ∷ [])) (room 53) ≡ join_after (refuse 8) (room 53))
unfolding parse image_form head_form block_form layout_form repeat each lengths unle read_leb stream get_chain read_change value_after unpacked class_of_all all_symbols digits number_of last_or
    image_bytes blocks_bytes streamed_parts stream_bytes head_bytes block_bytes les data_of offsets_from le leb_of groups change_bytes packed rising_from? rising? each_below? known_kinds?
    content_fits? entry_fits? entries_fit? part_fits? parts_fit? starts? block_fits? blocks_fit? valid? same end_after join_in
empty-second = (refl, refl)
