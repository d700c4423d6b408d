-- Images that are opened, and byte strings that break one rule each and are not: document 01, 'Block and image', with document
-- 02's joins, computed.
-- Assumes nothing.
use Prim.Native.Nat.{ℕ, ◌+◌}
use mathlib.Core.Path.{◌≡◌, refl}
use mathlib.Core.Bool.{true, false}
use mathlib.Core.List.{List, [], ◌∷◌, ◌++◌, map}
use lib.ListN.{length}
use Rattle.lists.specs.Choice.{is_some}
use Rattle.lists.specs.Last.{last_or}
use Rattle.numbers.specs.Leb128.{groups, leb_of, read_leb}
use Rattle.numbers.specs.LittleEndian.{le, unle}
use Rattle.value.specs.Class.{class_of_all, all_symbols}
use Rattle.packed.specs.Packed.{number_of, digits, packed, unpacked}
use Rattle.stream.specs.Stream.{change_bytes, value_after, read_change}
use Rattle.stream.specs.Entries.{stream_bytes}
use Rattle.image.specs.Block.{les, data_of, offsets_from, block_size, block_bytes}
use Rattle.image.specs.Head.{head_size, head_bytes}
use Rattle.image.specs.Image.{streamed_parts, blocks_bytes, image_bytes}
use Rattle.form.specs.Form.{repeat, each, get_chain}
use Rattle.codec.specs.Layout.{lengths, layout_form}
use Rattle.codec.specs.ImageForm.{stream, block_form, head_form, image_form}
use Rattle.codec.specs.Valid.{rising_from?, rising?, each_below?, known_kinds?, content_fits?, entry_fits?, entries_fit?, part_fits?, parts_fit?, starts?, block_fits?, blocks_fit?, valid?}
use Rattle.codec.specs.Parse.{parse}

-- the bytes of a head with a total that counts them and those after it, and of a block
abbrev pub opened : (limit : ℕ) (kinds : List ℕ) (blocks : ℕ) → List ℕ → List ℕ
opened limit ks n body = les 4 (length ks ∷ limit ∷ n ∷ (head_size (length ks) + length body) ∷ ks) ++ body

abbrev pub of : (times offsets : List ℕ) → List ℕ → List ℕ
of ts os d = les 4 (block_size (length os) (length ts) (length d) ∷ length ts ∷ length os ∷ os) ++ (les 8 ts ++ d)

abbrev real : ℕ
real = 0xfffffffe

abbrev absent : ℕ
absent = 0xffffffff

abbrev images : List (List ℕ)
images =
    -- no signals, no blocks
    opened 2 [] 0 []
    -- one time
    ∷ opened 2 [] 1 (of (7 ∷ []) [] [])
    -- the largest time
    ∷ opened 2 [] 1 (of (0 ∷ 0xffffffffffffffff ∷ []) [] [])
    -- two blocks, an event at index 0 of the first and at index 1 of both
    ∷ opened 2 (0 ∷ []) 2 (of (1 ∷ 2 ∷ []) (1 ∷ []) (0 ∷ 0 ∷ 1 ∷ []) ++ of (2 ∷ 3 ∷ []) (1 ∷ []) (0 ∷ 1 ∷ []))
    -- a class byte above the value's class: a raw claim
    ∷ opened 2 (1 ∷ []) 1 (of (5 ∷ []) (1 ∷ []) (2 ∷ 0x01 ∷ []))
    -- a top class that stays though no later value has it
    ∷ opened 2 (1 ∷ []) 2 (of (1 ∷ 2 ∷ []) (1 ∷ []) (1 ∷ 0x02 ∷ []) ++ of (2 ∷ 3 ∷ []) (1 ∷ []) (1 ∷ 0x10 ∷ []))
    -- joins: a short block before others, one time that is the end, a later start, a change at index 0, a lower top class
    ∷ opened 3 [] 2 (of (1 ∷ 2 ∷ []) [] [] ++ of (2 ∷ 3 ∷ []) [] [])
    ∷ opened 2 [] 2 (of (1 ∷ 2 ∷ []) [] [] ++ of (2 ∷ []) [] [])
    ∷ opened 2 [] 2 (of (1 ∷ 2 ∷ []) [] [] ++ of (3 ∷ 4 ∷ []) [] [])
    ∷ opened 2 (0 ∷ []) 2 (of (1 ∷ 2 ∷ []) (0 ∷ []) [] ++ of (2 ∷ 3 ∷ []) (1 ∷ []) (0 ∷ 0 ∷ []))
    ∷ opened 2 (1 ∷ []) 2 (of (1 ∷ 2 ∷ []) (1 ∷ []) (1 ∷ 0x02 ∷ []) ++ of (2 ∷ 3 ∷ []) (1 ∷ []) (0 ∷ 0x10 ∷ []))
    ∷ opened 2 [] 3 (of (5 ∷ []) [] [] ++ of (5 ∷ []) [] [] ++ of (5 ∷ []) [] [])
    -- two signals, the first without changes, and an absent one
    ∷ opened 2 (1 ∷ 0 ∷ absent ∷ []) 1 (of (5 ∷ []) (0 ∷ 1 ∷ 0 ∷ []) (0 ∷ 0 ∷ []))
    ∷ []

abbrev others : List (List ℕ)
others =
    -- no bytes
    []
    -- B 1, B 65,536; a width of 65,537
    ∷ opened 1 [] 0 []
    ∷ opened 65536 [] 0 []
    ∷ opened 2 (65537 ∷ []) 0 []
    -- a byte after the total; a total too small, too large
    ∷ (opened 2 [] 0 [] ++ 0 ∷ [])
    ∷ les 4 (0 ∷ 2 ∷ 0 ∷ 15 ∷ [])
    ∷ les 4 (0 ∷ 2 ∷ 0 ∷ 17 ∷ [])
    -- N above the blocks, and below them
    ∷ opened 2 [] 1 []
    ∷ opened 2 [] 0 (of (7 ∷ []) [] [])
    -- a block's size is too small, too large; its S is another
    ∷ opened 2 [] 1 (les 4 (19 ∷ 1 ∷ 0 ∷ []) ++ les 8 (7 ∷ []))
    ∷ opened 2 [] 1 (les 4 (21 ∷ 1 ∷ 0 ∷ []) ++ les 8 (7 ∷ []))
    ∷ opened 2 (0 ∷ []) 1 (of (7 ∷ []) [] [])
    -- no time; more than B times; times that do not rise
    ∷ opened 2 [] 1 (of [] [] [])
    ∷ opened 2 [] 1 (of (1 ∷ 2 ∷ 3 ∷ []) [] [])
    ∷ opened 2 [] 1 (of (7 ∷ 7 ∷ []) [] [])
    ∷ opened 2 [] 1 (of (7 ∷ 6 ∷ []) [] [])
    -- a later block that starts before the end
    ∷ opened 2 [] 2 (of (1 ∷ 3 ∷ []) [] [] ++ of (2 ∷ 4 ∷ []) [] [])
    -- offsets: bytes before the first, two at one place, two out of order, data without an offset
    ∷ opened 2 (0 ∷ []) 1 (of (7 ∷ []) (2 ∷ []) (0 ∷ 0 ∷ 0 ∷ []))
    ∷ opened 2 (0 ∷ 0 ∷ []) 1 (of (7 ∷ []) (1 ∷ 1 ∷ []) (0 ∷ 0 ∷ []))
    ∷ opened 2 (0 ∷ 0 ∷ []) 1 (of (7 ∷ []) (3 ∷ 1 ∷ []) (0 ∷ 0 ∷ 0 ∷ 0 ∷ []))
    ∷ opened 2 (0 ∷ []) 1 (of (7 ∷ []) (0 ∷ []) (0 ∷ 0 ∷ []))
    -- a class byte without a stream; a stream for an absent signal
    ∷ opened 2 (0 ∷ []) 1 (of (7 ∷ []) (1 ∷ []) (0 ∷ []))
    ∷ opened 2 (absent ∷ []) 1 (of (7 ∷ []) (1 ∷ []) (0 ∷ 0 ∷ []))
    -- an index at T; a number that is not in its shortest form
    ∷ opened 2 (0 ∷ []) 1 (of (7 ∷ []) (1 ∷ []) (0 ∷ 1 ∷ []))
    ∷ opened 2 (0 ∷ []) 1 (of (7 ∷ []) (1 ∷ []) (0 ∷ 0x80 ∷ 0x00 ∷ []))
    -- 01 in class Four; an unused top bit set; symbol 9, at width 1 and wider; half a value
    ∷ opened 2 (2 ∷ []) 1 (of (7 ∷ []) (1 ∷ []) (2 ∷ 0x01 ∷ 0x01 ∷ []))
    ∷ opened 2 (2 ∷ []) 1 (of (7 ∷ []) (1 ∷ []) (2 ∷ 0x00 ∷ 0x05 ∷ []))
    ∷ opened 2 (1 ∷ []) 1 (of (7 ∷ []) (1 ∷ []) (2 ∷ 0x09 ∷ []))
    ∷ opened 2 (2 ∷ []) 1 (of (7 ∷ []) (1 ∷ []) (2 ∷ 0x02 ∷ 0x91 ∷ []))
    ∷ opened 2 (3 ∷ []) 1 (of (7 ∷ []) (1 ∷ []) (2 ∷ 0x02 ∷ 0x08 ∷ []))
    -- a class byte above 2; one below its stream's class; one above 0 for an event and for a real
    ∷ opened 2 (1 ∷ []) 1 (of (7 ∷ []) (1 ∷ []) (3 ∷ 0x01 ∷ []))
    ∷ opened 2 (1 ∷ []) 1 (of (7 ∷ []) (1 ∷ []) (0 ∷ 0x02 ∷ []))
    ∷ opened 2 (0 ∷ []) 1 (of (7 ∷ []) (1 ∷ []) (1 ∷ 0 ∷ []))
    ∷ opened 2 (real ∷ []) 1 (of (7 ∷ []) (1 ∷ []) (1 ∷ 0 ∷ le 8 0))
    ∷ []

pub images-open : map (λ (b : List ℕ). is_some (parse b)) images ≡ map (λ (b : List ℕ). true) images
unfolding les parse image_form head_form block_form layout_form repeat each lengths unle read_leb stream get_chain read_change value_after unpacked class_of_all all_symbols digits number_of
    last_or image_bytes blocks_bytes streamed_parts stream_bytes head_bytes block_bytes data_of offsets_from le leb_of groups change_bytes packed rising_from? rising? each_below? known_kinds?
    content_fits? entry_fits? entries_fit? part_fits? parts_fit? starts? block_fits? blocks_fit? valid?
images-open = refl

pub others-do-not : map (λ (b : List ℕ). is_some (parse b)) others ≡ map (λ (b : List ℕ). false) others
unfolding les parse image_form head_form block_form layout_form repeat each lengths unle read_leb stream get_chain read_change value_after unpacked class_of_all all_symbols digits number_of
    last_or image_bytes blocks_bytes streamed_parts stream_bytes head_bytes block_bytes data_of offsets_from le leb_of groups change_bytes packed rising_from? rising? each_below? known_kinds?
    content_fits? entry_fits? entries_fit? part_fits? parts_fit? starts? block_fits? blocks_fit? valid?
others-do-not = refl
