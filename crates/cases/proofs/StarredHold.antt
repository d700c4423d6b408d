-- Every starred case of the bench sheet holds, and its image is the one that its calls leave: facts that are computed.
-- Assumes nothing.
use mathlib.Core.Path.{◌≡◌, refl}
use mathlib.Core.Bool.{true}
use mathlib.Core.List.{[], ◌∷◌}
use Rattle.lists.specs.Same.{same}
use Rattle.numbers.specs.Leb128.{groups, leb_of}
use Rattle.numbers.specs.LittleEndian.{le, unle}
use Rattle.value.specs.Symbol.{symbol_of}
use Rattle.value.specs.Class.{class_of_all}
use Rattle.lists.specs.Last.{last_or}
use Rattle.vcd.specs.Vcd.{symbols_in, vcd_bit, text_of, extended, text_symbols}
use Rattle.packed.specs.Packed.{number_of, digits, packed}
use Rattle.signal.specs.Content.{vcd, decode}
use Rattle.signal.specs.declared.kind.SignalEncoding.TheVariants.{BitVector}
use Rattle.stream.specs.Stream.{change_bytes}
use Rattle.image.specs.Block.{les, data_of, offsets_from, block_bytes}
use Rattle.image.specs.Head.{head_bytes}
use Rattle.recording.specs.Calls.{time, change, finish, way_of}
use Rattle.recording.specs.State.{skip_of, with_skip, skip_begun, skip_ended, skip_same, skip_counted}
use Rattle.recording.specs.Work.{items_of, gather}
use Rattle.recording.specs.Refusals.{any_bad, start_tests, state_tests}
use Rattle.recording.specs.Step.{parts_from, cut_of, time_of, change_of, finish_of, start_of, step, run}
use Rattle.loaded.specs.EntryBytes.{entry_bytes}
use Rattle.recording.specs.Runs.{lent_with, lent, ran_with, ran_in, ran, image_left}
use Rattle.cases.specs.Starred.{holds, all_hold, starred}

pub starred-hold : all_hold starred ≡ true
unfolding groups leb_of le unle symbol_of class_of_all symbols_in last_or vcd_bit text_of extended text_symbols number_of digits packed decode change_bytes les data_of offsets_from block_bytes
    head_bytes way_of skip_of with_skip skip_begun skip_ended skip_same skip_counted items_of gather any_bad start_tests state_tests parts_from cut_of time_of change_of finish_of start_of step run
    lent_with lent ran_with ran_in ran image_left
    same entry_bytes holds all_hold starred
starred-hold = refl

-- the image of widths 1 and 4, B 4: time 10, "1", "b1x"; time 20, second "b0001"; finish
pub image-left : image_left 4 (BitVector 1 ∷ BitVector 4 ∷ [])
    (time 0 10 ∷ change 0 0 (vcd (49 ∷ [])) ∷ change 0 1 (vcd (98 ∷ 49 ∷ 120 ∷ [])) ∷ time 0 20 ∷ change 0 1 (vcd (98 ∷ 48 ∷ 48 ∷ 48 ∷ 49 ∷ [])) ∷ finish ∷ [])
    ≡ 2 ∷ 0 ∷ 0 ∷ 0 ∷ 4 ∷ 0 ∷ 0 ∷ 0 ∷ 1 ∷ 0 ∷ 0 ∷ 0 ∷ 0x43 ∷ 0 ∷ 0 ∷ 0 ∷ 1 ∷ 0 ∷ 0 ∷ 0 ∷ 4 ∷ 0 ∷ 0 ∷ 0
    ∷ 0x2b ∷ 0 ∷ 0 ∷ 0 ∷ 2 ∷ 0 ∷ 0 ∷ 0 ∷ 2 ∷ 0 ∷ 0 ∷ 0 ∷ 1 ∷ 0 ∷ 0 ∷ 0 ∷ 3 ∷ 0 ∷ 0 ∷ 0
    ∷ 0x0a ∷ 0 ∷ 0 ∷ 0 ∷ 0 ∷ 0 ∷ 0 ∷ 0 ∷ 0x14 ∷ 0 ∷ 0 ∷ 0 ∷ 0 ∷ 0 ∷ 0 ∷ 0
    ∷ 0x00 ∷ 0x01 ∷ 0x01 ∷ 0x01 ∷ 0x06 ∷ 0x04 ∷ 0x01 ∷ []
unfolding groups leb_of le unle symbol_of class_of_all symbols_in last_or vcd_bit text_of extended text_symbols number_of digits packed decode change_bytes les data_of offsets_from block_bytes
    head_bytes way_of skip_of with_skip skip_begun skip_ended skip_same skip_counted items_of gather any_bad start_tests state_tests parts_from cut_of time_of change_of finish_of start_of step run
    lent_with lent ran_with ran_in ran image_left
image-left = refl
