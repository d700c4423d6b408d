-- A recording of every kind of signal, computed from the start to what its image loads as: refusals 3, 4 and 6, a skip, an equal time, a
-- cut, a repeat across the cut, a raw claim above the value, -0.0 beside 0.0, events in both blocks. And one whose changes edition 2 alone
-- records.
-- Assumes nothing.
use Prim.Native.Nat.{ℕ, zero, suc, ◌<◌, ◌^◌}
use mathlib.Core.Path.{◌≡◌, refl}
use mathlib.Core.Bool.{true}
use mathlib.Core.List.{List, [], ◌∷◌, ◌++◌}
use native.Mathlib.Omega.{arith}
use lib.ListN.{get_or, replicate, length-replicate}
use Rattle.lists.proofs.BytesLaws.{no_bytes, cons-bytes}
use Rattle.lists.specs.Last.{last_or}
use Rattle.lists.specs.Same.{same}
use Rattle.numbers.specs.Leb128.{groups, leb_of, read_leb}
use Rattle.numbers.specs.LittleEndian.{le, unle}
use Rattle.value.specs.Symbol.{symbol_of}
use Rattle.value.specs.Class.{class_of_all, all_symbols}
use Rattle.value.specs.declared.states.States.TheVariants.{Two, Nine}
use Rattle.vcd.specs.Vcd.{symbols_in, vcd_bit, text_of, extended, text_symbols}
use Rattle.packed.specs.Packed.{number_of, digits, packed, unpacked}
use Rattle.packed.specs.Raw.{raw_symbols}
use Rattle.signal.specs.Content.{happened, symbols, bits, vcd, raw, real, decode}
use Rattle.signal.specs.declared.kind.SignalEncoding.TheVariants.{BitVector, Real, Absent}
use Rattle.stream.specs.Stream.{change_bytes, value_after, read_change}
use Rattle.stream.specs.Entries.{entry, stream_bytes}
use Rattle.image.specs.Block.{les, data_of, offsets_from, block_bytes}
use Rattle.image.specs.Head.{head_bytes}
use Rattle.image.specs.Image.{streamed_parts, blocks_bytes, image_bytes}
use Rattle.recording.specs.Calls.{Call, Slice, CallFits, Fitting, time, change, finish, taken, back, recorded, skipped, Reply, say, refusals, heard, way_of}
use Rattle.recording.specs.Calls as calls
use Rattle.recording.specs.Work.{items_of, gather}
use Rattle.recording.specs.Memory.{Memory, memory, record_of}
use Rattle.recording.specs.Refusals.{any_bad, start_tests, state_tests}
use Rattle.recording.specs.State.{skip_begun, skip_ended, skip_same, skip_counted, skip_of, with_skip, settings_of}
use Rattle.recording.specs.Step.{parts_from, cut_of, time_of, change_of, finish_of, start_of, step, run, kinds_of}
use Rattle.recording.specs.Runs.{stale_state, sames}
use Rattle.history.specs.History.{Telling, no_history, tell, tell_all, list_of, kept_after, kept, kept_of, top_of, class_of}
use Rattle.form.specs.Form.{repeat, each, get_chain}
use Rattle.codec.specs.Layout.{lengths, layout_form}
use Rattle.codec.specs.ImageForm.{stream, block_form, head_form, image_form}
use Rattle.codec.specs.Valid.{rising_from?, rising?, each_below?, known_kinds?, content_fits?, entry_fits?, entries_fit?, part_fits?, parts_fit?, starts?, block_fits?, blocks_fit?, valid?}
use Rattle.codec.specs.Parse.{parse}
use Rattle.loaded.specs.Opener.{open_of}
use Rattle.loaded.specs.Loading.{table_from, moved, repeats_last, pushed, load_from}
use Rattle.loaded.specs.EntryBytes.{entry_bytes, entries_bytes}
use Rattle.loaded.specs.Reader.{load_of, load_after, loaded, load_in, table_of, table_after, counted, table_in}
use Rattle.loaded.specs.Reader as reader
use Rattle.demand.specs.Demand3.{StateFits, RecordsFit, Lent, Recorded, ran_from, left_by, history_of}

-- a vector of width 2, an event, a real, an absent signal; B 2
abbrev mixed : Memory
mixed =
    memory stale_state
    (record_of (BitVector 2) 9 Nine 0 ∷ record_of (BitVector 0) 7 Two 0 ∷ record_of Real 5 Nine 0 ∷ record_of Absent 0 Two 0 ∷ [])
    (replicate 2 99) (replicate 64 99) (replicate 200 99)

abbrev mixed_calls : List Call
mixed_calls =
    change 0 0 (vcd (49 ∷ []))  -- "1" before any time: 3
    ∷ time 0 1
    ∷ change 0 0 (vcd (49 ∷ 120 ∷ []))  -- "1x"
    ∷ change 0 1 (vcd [])
    ∷ time 0 2
    ∷ change 0 2 (real 0x8000000000000000)  -- -0.0
    ∷ change 0 2 (real 0)
    ∷ time 0 1  -- back
    ∷ change 0 0 (vcd (113 ∷ []))  -- "q", skipped
    ∷ time 0 2  -- same: the skip stands in edition 1, and ends in edition 2
    ∷ change 0 9 (vcd [])  -- skipped; in edition 2 refused with 4
    ∷ time 0 3  -- cuts
    ∷ change 0 0 (vcd (49 ∷ 120 ∷ []))  -- "1x" again
    ∷ change 0 0 (raw 2 (0x12 ∷ []))  -- and again, raw, claiming Nine
    ∷ change 0 0 (vcd (113 ∷ []))  -- 6
    ∷ change 0 3 (vcd [])  -- 4
    ∷ change 0 1 (vcd [])
    ∷ change 0 0 (vcd (48 ∷ 49 ∷ []))  -- "01"
    ∷ []

-- two blocks, of times 1 2 and 2 3; the event's streams are 00 and 01
abbrev mixed_image : List ℕ
mixed_image =
    les 4 (4 ∷ 2 ∷ 2 ∷ 153 ∷ 2 ∷ 0 ∷ 0xfffffffe ∷ 0xffffffff ∷ [])
    ++ (les 4 (68 ∷ 2 ∷ 4 ∷ 1 ∷ 4 ∷ 6 ∷ 0 ∷ []) ++ (les 8 (1 ∷ 2 ∷ [])
    ++ (0x01 ∷ 0x01 ∷ 0x06 ∷ 0x00 ∷ 0x00 ∷ 0x00 ∷ 0x01 ∷ le 8 0x8000000000000000 ++ (0x00 ∷ le 8 0
    ++ (les 4 (53 ∷ 2 ∷ 4 ∷ 1 ∷ 8 ∷ 0 ∷ 0 ∷ []) ++ (les 8 (2 ∷ 3 ∷ [])
    ++ (0x02 ∷ 0x05 ∷ 0x06 ∷ 0x01 ∷ 0x06 ∷ 0x00 ∷ 0x01 ∷ 0x00 ∷ 0x01 ∷ [])))))))

pub mixed-left : left_by (settings_of 2 4 1) mixed mixed_calls 153 ≡ mixed_image
unfolding groups leb_of le unle symbol_of class_of_all all_symbols symbols_in last_or vcd_bit text_of extended text_symbols number_of digits packed unpacked raw_symbols decode change_bytes les data_of
    offsets_from block_bytes head_bytes way_of skip_of with_skip skip_begun skip_ended skip_same skip_counted items_of gather any_bad start_tests state_tests parts_from cut_of time_of change_of
    finish_of start_of step run
mixed-left = refl

-- the list meets demand 3's premises
pub nines-at : (n i : ℕ) → get_or (replicate n 99) i 0 < 256
nines-at zero i = omega arith
nines-at (suc n) zero = omega arith
nines-at (suc n) (suc i) = nines-at n i

pub nines-slice : (n : ℕ) → n < 2 ^ 63 → Slice (replicate n 99)
nines-slice n h = (nines-at n, rw (length-replicate {A = ℕ} n 99) h)

pub stale-fits : StateFits stale_state
stale-fits = record {
  limit = omega arith;
  signals = omega arith;
  held = omega arith;
  work = omega arith;
  image = omega arith;
  blocks = omega arith;
  edition = omega arith;
  zero = omega arith;
  one = omega arith;
}

mixed-lent : Lent mixed
unfolding RecordsFit
mixed-lent = record {
  state = stale-fits;
  records = ((omega arith, omega arith, omega arith), ((omega arith, omega arith, omega arith), ((omega arith, omega arith, omega arith), ((omega arith, omega arith, omega arith), tt))));
  work = nines-slice 64 (omega arith);
  image = nines-slice 200 (omega arith);
  times = λ i. let h = nines-at 2 i in omega arith;
  long = omega arith;
}

empty : Slice []
empty = (no_bytes, omega arith)

pub one : (x : ℕ) → x < 256 → Slice (x ∷ [])
one x h = (cons-bytes x [] h no_bytes, omega arith)

two : (x y : ℕ) → x < 256 → y < 256 → Slice (x ∷ y ∷ [])
two x y h k = (cons-bytes x (y ∷ []) h (cons-bytes y [] k no_bytes), omega arith)

mixed-fits : Fitting mixed_calls
unfolding Fitting
mixed-fits = (
  (omega arith, omega arith, one 49 (omega arith)),
  (
    (omega arith, omega arith),
    (
      (omega arith, omega arith, two 49 120 (omega arith) (omega arith)),
      (
        (omega arith, omega arith, empty),
        (
          (omega arith, omega arith),
          (
            (omega arith, omega arith, omega arith),
            (
              (omega arith, omega arith, omega arith),
              (
                (omega arith, omega arith),
                (
                  (omega arith, omega arith, one 113 (omega arith)),
                  (
                    (omega arith, omega arith),
                    (
                      (omega arith, omega arith, empty),
                      (
                        (omega arith, omega arith),
                        (
                          (omega arith, omega arith, two 49 120 (omega arith) (omega arith)),
                          (
                            (omega arith, omega arith, (omega arith, one 0x12 (omega arith))),
                            (
                              (omega arith, omega arith, one 113 (omega arith)),
                              ((omega arith, omega arith, empty), ((omega arith, omega arith, empty), ((omega arith, omega arith, two 48 49 (omega arith) (omega arith)), tt))),
                            ),
                          ),
                        ),
                      ),
                    ),
                  ),
                ),
              ),
            ),
          ),
        ),
      ),
    ),
  ),
)

pub mixed-recorded : Recorded (settings_of 2 4 1) mixed mixed_calls 153
unfolding groups leb_of le unle symbol_of class_of_all all_symbols symbols_in last_or vcd_bit text_of extended text_symbols number_of digits packed unpacked raw_symbols decode change_bytes les data_of
    offsets_from block_bytes head_bytes way_of skip_of with_skip skip_begun skip_ended skip_same skip_counted items_of gather any_bad start_tests state_tests parts_from cut_of time_of change_of
    finish_of start_of step run
mixed-recorded = record { lent = mixed-lent; fitting = mixed-fits; start = refl; end = refl }

abbrev mixed_replies : List Reply
mixed_replies =
    calls.refuse 3 ∷ say taken ∷ say recorded ∷ say recorded ∷ say taken ∷ say recorded ∷ say recorded ∷ say back ∷ say skipped ∷ say calls.same ∷ say skipped
    ∷ say taken ∷ say recorded ∷ say recorded ∷ calls.refuse 6 ∷ calls.refuse 4 ∷ say recorded ∷ say recorded ∷ []

pub mixed-replies : let r = ran_from (settings_of 2 4 1) mixed mixed_calls in (r.replies ≡ mixed_replies) × ((step r.last finish).memory.state.skips.zero.count ≡ 2)
unfolding groups leb_of le unle symbol_of class_of_all all_symbols symbols_in last_or vcd_bit text_of extended text_symbols number_of digits packed unpacked raw_symbols decode change_bytes les data_of
    offsets_from block_bytes head_bytes way_of skip_of with_skip skip_begun skip_ended skip_same skip_counted items_of gather any_bad start_tests state_tests parts_from cut_of time_of change_of
    finish_of start_of step run
mixed-replies = (refl, refl)

-- in edition 2 the equal time ends the skip, so the change of signal 9 is refused with 4: another count, and the same image
abbrev replies_of_two : List Reply
replies_of_two =
    calls.refuse 3 ∷ say taken ∷ say recorded ∷ say recorded ∷ say taken ∷ say recorded ∷ say recorded ∷ say back ∷ say skipped ∷ say calls.same ∷ calls.refuse 4
    ∷ say taken ∷ say recorded ∷ say recorded ∷ calls.refuse 6 ∷ calls.refuse 4 ∷ say recorded ∷ say recorded ∷ []

pub mixed-in-two : let r = ran_from (settings_of 2 4 2) mixed mixed_calls in
    (r.replies ≡ replies_of_two) × ((step r.last finish).memory.state.skips.zero.count ≡ 1) × (left_by (settings_of 2 4 2) mixed mixed_calls 153 ≡ mixed_image)
unfolding groups leb_of le unle symbol_of class_of_all all_symbols symbols_in last_or vcd_bit text_of extended text_symbols number_of digits packed unpacked raw_symbols decode change_bytes les data_of
    offsets_from block_bytes head_bytes way_of skip_of with_skip skip_begun skip_ended skip_same skip_counted items_of gather any_bad start_tests state_tests parts_from cut_of time_of change_of
    finish_of start_of step run
mixed-in-two = (refl, refl, refl)

-- the history, fed which of these are refusals: the same answers and count; times, kept changes and classes
abbrev mixed_told : Telling
mixed_told = tell_all (kinds_of mixed.records) 1 no_history mixed_calls (refusals mixed_replies)

pub mixed-told : (mixed_told.answers ≡ heard mixed_replies) × (mixed_told.last.skips.zero.count ≡ 2) × (mixed_told.last.times ≡ 1 ∷ 2 ∷ 3 ∷ [])
unfolding symbol_of class_of_all all_symbols symbols_in last_or vcd_bit text_of extended text_symbols number_of digits unpacked raw_symbols decode way_of tell tell_all same list_of kept_after kept
    top_of
mixed-told = (refl, refl, refl)

pub mixed-kept : (kept_of mixed_told.last 0 ≡ entry 0 (symbols (1 ∷ 2 ∷ [])) ∷ entry 2 (symbols (0 ∷ 1 ∷ [])) ∷ [])
    × (kept_of mixed_told.last 1 ≡ entry 0 happened ∷ entry 2 happened ∷ [])
    × (kept_of mixed_told.last 2 ≡ entry 1 (bits 0x8000000000000000) ∷ entry 1 (bits 0) ∷ [])
    × (class_of mixed_told.last 0 ≡ 2) × (class_of mixed_told.last 1 ≡ 0) × (class_of mixed_told.last 2 ≡ 0)
unfolding symbol_of class_of_all all_symbols symbols_in last_or vcd_bit text_of extended text_symbols number_of digits unpacked raw_symbols decode way_of tell tell_all same list_of kept_after kept
    top_of
mixed-kept = (refl, refl, refl, refl, refl, refl)

-- the image loads as these: at width 2, C Nine, a class byte precedes one byte
pub mixed-loads : (open_of mixed_image ≡ true)
    × (table_of mixed_image (9 ∷ 9 ∷ 9 ∷ 9 ∷ []) ≡ table_after (counted 3) (1 ∷ 2 ∷ 3 ∷ 9 ∷ []))
    × (load_of mixed_image 0 (9 ∷ 9 ∷ 9 ∷ []) (replicate 5 9) ≡ load_after (loaded 2 2) (0 ∷ 2 ∷ 9 ∷ []) (0x40 ∷ 0x06 ∷ 0x00 ∷ 0x01 ∷ 9 ∷ []))
    × (load_of mixed_image 1 (9 ∷ 9 ∷ []) [] ≡ load_after (loaded 2 0) (0 ∷ 2 ∷ []) [])
    × (load_of mixed_image 2 (9 ∷ 9 ∷ []) (replicate 16 9) ≡ load_after (loaded 2 0) (1 ∷ 1 ∷ []) (0 ∷ 0 ∷ 0 ∷ 0 ∷ 0 ∷ 0 ∷ 0 ∷ 0x80 ∷ replicate 8 0))
    × (load_of mixed_image 3 (9 ∷ []) (9 ∷ []) ≡ load_after (reader.refuse 4) (9 ∷ []) (9 ∷ []))
unfolding les parse image_form head_form block_form layout_form repeat each lengths unle read_leb stream get_chain read_change value_after unpacked class_of_all all_symbols digits number_of
    last_or image_bytes blocks_bytes streamed_parts stream_bytes head_bytes block_bytes data_of offsets_from le leb_of groups change_bytes packed rising_from? rising? each_below? known_kinds?
    content_fits? entry_fits? entries_fit? part_fits? parts_fit? starts? block_fits? blocks_fit? valid? table_from table_in moved repeats_last pushed load_from entry_bytes entries_bytes load_in
    same
mixed-loads = (refl, refl, refl, refl, refl, refl)

-- ---- document 02, (j): a clock slips and returns to the time that it left; in edition 2 the changes after it are recorded

-- a signal of width 1; B 4
abbrev returning : Memory
returning = memory stale_state (record_of (BitVector 1) 7 Nine 0 ∷ []) (replicate 4 99) (replicate 64 99) (replicate 64 99)

-- time 10, and at it 0 and 1
abbrev return_image : List ℕ
return_image = les 4 (1 ∷ 4 ∷ 1 ∷ 47 ∷ 1 ∷ []) ++ (les 4 (27 ∷ 1 ∷ 1 ∷ 1 ∷ []) ++ (les 8 (10 ∷ []) ++ (0x00 ∷ 0x00 ∷ 0x01 ∷ [])))

returning-lent : Lent returning
unfolding RecordsFit
returning-lent = record {
  state = stale-fits;
  records = ((omega arith, omega arith, omega arith), tt);
  work = nines-slice 64 (omega arith);
  image = nines-slice 64 (omega arith);
  times = λ i. let h = nines-at 4 i in omega arith;
  long = omega arith;
}

sames-fit : Fitting sames
unfolding Fitting
sames-fit =
    let zero-fits : CallFits (change 0 0 (vcd (48 ∷ []))) = (omega arith, omega arith, one 48 (omega arith)) in
    let one-fits : CallFits (change 0 0 (vcd (49 ∷ []))) = (omega arith, omega arith, one 49 (omega arith)) in
    let timed : (t : ℕ) → t < 2 ^ 64 → CallFits (time 0 t) = λ t h. (omega arith, h) in
    let ten = timed 10 (omega arith) in
    let nine = timed 9 (omega arith) in
    (ten, (timed 5 (omega arith), (one-fits, (ten, (zero-fits, (ten, (one-fits, (nine, (nine, (zero-fits, tt))))))))))

pub return-recorded : Recorded (settings_of 4 1 2) returning sames 47
unfolding groups leb_of le unle symbol_of class_of_all all_symbols symbols_in last_or vcd_bit text_of extended text_symbols number_of digits packed unpacked raw_symbols decode change_bytes les data_of
    offsets_from block_bytes head_bytes way_of skip_of with_skip skip_begun skip_ended skip_same skip_counted items_of gather any_bad start_tests state_tests parts_from cut_of time_of change_of
    finish_of start_of step run
return-recorded = record { lent = returning-lent; fitting = sames-fit; start = refl; end = refl }

pub return-left : left_by (settings_of 4 1 2) returning sames 47 ≡ return_image
unfolding groups leb_of le unle symbol_of class_of_all all_symbols symbols_in last_or vcd_bit text_of extended text_symbols number_of digits packed unpacked raw_symbols decode change_bytes les data_of
    offsets_from block_bytes head_bytes way_of skip_of with_skip skip_begun skip_ended skip_same skip_counted items_of gather any_bad start_tests state_tests parts_from cut_of time_of change_of
    finish_of start_of step run
return-left = refl

pub return-told : let h = history_of (settings_of 4 1 2) returning sames in
    (h.answers ≡ taken ∷ back ∷ skipped ∷ calls.same ∷ recorded ∷ calls.same ∷ recorded ∷ back ∷ back ∷ skipped ∷ [])
    × (h.last.times ≡ 10 ∷ []) × (h.last.skips.zero.count ≡ 2) × (kept_of h.last 0 ≡ entry 0 (symbols (0 ∷ [])) ∷ entry 0 (symbols (1 ∷ [])) ∷ [])
unfolding groups leb_of le unle symbol_of class_of_all all_symbols symbols_in last_or vcd_bit text_of extended text_symbols number_of digits packed unpacked raw_symbols decode change_bytes les data_of
    offsets_from block_bytes head_bytes way_of skip_of with_skip skip_begun skip_ended skip_same skip_counted items_of gather any_bad start_tests state_tests parts_from cut_of time_of change_of
    finish_of start_of step run tell tell_all same list_of kept_after kept
return-told = (refl, refl, refl, refl)

pub return-loads : (open_of return_image ≡ true) × (table_of return_image (9 ∷ []) ≡ table_after (counted 1) (10 ∷ []))
    × (load_of return_image 0 (9 ∷ 9 ∷ []) (9 ∷ 9 ∷ []) ≡ load_after (loaded 2 0) (0 ∷ 0 ∷ []) (0 ∷ 1 ∷ []))
unfolding les parse image_form head_form block_form layout_form repeat each lengths unle read_leb stream get_chain read_change value_after unpacked class_of_all all_symbols digits number_of
    last_or image_bytes blocks_bytes streamed_parts stream_bytes head_bytes block_bytes data_of offsets_from le leb_of groups change_bytes packed rising_from? rising? each_below? known_kinds?
    content_fits? entry_fits? entries_fit? part_fits? parts_fit? starts? block_fits? blocks_fit? valid? table_from table_in moved repeats_last pushed load_from entry_bytes entries_bytes load_in
    same
return-loads = (refl, refl, refl)
