-- Joins in either grouping, computed: document 02, 'Joins in either grouping'.
-- Assumes nothing.
use Prim.Native.Nat.{ℕ}
use mathlib.Core.Path.{◌≡◌, refl}
use mathlib.Core.List.{List, [], ◌∷◌, ◌++◌}
use Rattle.lists.specs.Last.{last_or}
use Rattle.lists.specs.Same.{same}
use Rattle.numbers.specs.Leb128.{groups, leb_of, read_leb}
use Rattle.numbers.specs.LittleEndian.{le, unle}
use Rattle.value.specs.Class.{class_of_all, all_symbols}
use Rattle.packed.specs.Packed.{number_of, digits, packed, unpacked}
use Rattle.stream.specs.Stream.{change_bytes, value_after, read_change}
use Rattle.stream.specs.Entries.{stream_bytes}
use Rattle.image.specs.Block.{les, data_of, offsets_from, block_bytes}
use Rattle.image.specs.Head.{head_bytes}
use Rattle.image.specs.Image.{streamed_parts, blocks_bytes, image_bytes}
use Rattle.form.specs.Form.{repeat, each, get_chain}
use Rattle.codec.specs.Layout.{lengths, layout_form}
use Rattle.codec.specs.ImageForm.{stream, block_form, head_form, image_form}
use Rattle.codec.specs.Valid.{rising_from?, rising?, each_below?, known_kinds?, content_fits?, entry_fits?, entries_fit?, part_fits?, parts_fit?, starts?, block_fits?, blocks_fit?, valid?}
use Rattle.codec.specs.Ends.{end_after}
use Rattle.codec.specs.Parse.{parse}
use Rattle.codec.proofs.Cases.{opened, of}
use Rattle.joined.specs.Join.{join_in}
use Rattle.joined.specs.Groupings.{refused, made, grouped_left, grouped_right}
use Rattle.joined.proofs.Cases.{room, at, empty}

abbrev two_times : (t u : ℕ) → List ℕ
two_times t u = opened 2 (1 ∷ []) 2 (of (t ∷ []) (0 ∷ []) [] ++ of (u ∷ []) (0 ∷ []) [])

abbrev three_times : (t u v : ℕ) → List ℕ
three_times t u v = opened 2 (1 ∷ []) 3 (of (t ∷ []) (0 ∷ []) [] ++ (of (u ∷ []) (0 ∷ []) [] ++ of (v ∷ []) (0 ∷ []) []))

-- of another kind, one time
abbrev other : ℕ → List ℕ
other t = opened 2 (2 ∷ []) 1 (of (t ∷ []) (0 ∷ []) [])

abbrev no_blocks : List ℕ
no_blocks = empty 2 (1 ∷ [])

-- an output as long as three images of one time
abbrev long : List ℕ
long = room 132

-- both give the same bytes: a time after a gap, and one that meets it
pub both-succeed : (grouped_left (at 1) (at 5) (at 5) long long ≡ made (three_times 1 5 5)) × (grouped_right (at 1) (at 5) (at 5) long long ≡ made (three_times 1 5 5))
unfolding parse image_form head_form block_form layout_form repeat each lengths unle read_leb stream get_chain read_change value_after unpacked class_of_all all_symbols digits number_of last_or
    image_bytes blocks_bytes streamed_parts stream_bytes head_bytes block_bytes les data_of offsets_from le leb_of groups change_bytes packed rising_from? rising? each_below? known_kinds?
    content_fits? entry_fits? entries_fit? part_fits? parts_fit? starts? block_fits? blocks_fit? valid? same end_after join_in
both-succeed = (refl, refl)

-- both are refused, for the same number or for another
pub both-refused : (grouped_left (other 1) (at 5) (at 9) long long ≡ refused 14) × (grouped_right (other 1) (at 5) (at 9) long long ≡ refused 14)
    × (grouped_left (at 5) (at 3) (at 9) long long ≡ refused 16) × (grouped_right (at 5) (at 3) (at 9) long long ≡ refused 16)
    × (grouped_left (at 5) (at 3) (other 9) long long ≡ refused 16) × (grouped_right (at 5) (at 3) (other 9) long long ≡ refused 14)
    × (grouped_left (other 1) (at 5) (at 3) long long ≡ refused 14) × (grouped_right (other 1) (at 5) (at 3) long long ≡ refused 16)
unfolding parse image_form head_form block_form layout_form repeat each lengths unle read_leb stream get_chain read_change value_after unpacked class_of_all all_symbols digits number_of last_or
    image_bytes blocks_bytes streamed_parts stream_bytes head_bytes block_bytes les data_of offsets_from le leb_of groups change_bytes packed rising_from? rising? each_below? known_kinds?
    content_fits? entry_fits? entries_fit? part_fits? parts_fit? starts? block_fits? blocks_fit? valid? same end_after join_in
both-refused = (refl, refl, refl, refl, refl, refl, refl, refl)

-- why the first and the second need a block: without one a grouping is refused with 15. The third may be empty
pub empty-ones : (grouped_left (at 5) no_blocks (at 3) long long ≡ refused 16) × (grouped_right (at 5) no_blocks (at 3) long long ≡ refused 15)
    × (grouped_left no_blocks (at 5) (at 3) long long ≡ refused 15) × (grouped_right no_blocks (at 5) (at 3) long long ≡ refused 16)
    × (grouped_left (at 1) (at 5) no_blocks long long ≡ made (two_times 1 5)) × (grouped_right (at 1) (at 5) no_blocks long long ≡ made (two_times 1 5))
unfolding parse image_form head_form block_form layout_form repeat each lengths unle read_leb stream get_chain read_change value_after unpacked class_of_all all_symbols digits number_of last_or
    image_bytes blocks_bytes streamed_parts stream_bytes head_bytes block_bytes les data_of offsets_from le leb_of groups change_bytes packed rising_from? rising? each_below? known_kinds?
    content_fits? entry_fits? entries_fit? part_fits? parts_fit? starts? block_fits? blocks_fit? valid? same end_after join_in
empty-ones = (refl, refl, refl, refl, refl, refl)

-- why the inner output must be long enough, too: 68 bytes are, 67 are not
pub inner-short : (grouped_left (at 1) (at 5) (at 3) (room 68) long ≡ refused 16) × (grouped_left (at 1) (at 5) (at 3) (room 67) long ≡ refused 8)
    × (grouped_right (at 1) (at 5) (at 3) [] long ≡ refused 16)
unfolding parse image_form head_form block_form layout_form repeat each lengths unle read_leb stream get_chain read_change value_after unpacked class_of_all all_symbols digits number_of last_or
    image_bytes blocks_bytes streamed_parts stream_bytes head_bytes block_bytes les data_of offsets_from le leb_of groups change_bytes packed rising_from? rising? each_below? known_kinds?
    content_fits? entry_fits? entries_fit? part_fits? parts_fit? starts? block_fits? blocks_fit? valid? same end_after join_in
inner-short = (refl, refl, refl)
