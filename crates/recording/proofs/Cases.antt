-- Short recordings, computed.
-- Assumes nothing.
use Prim.Native.Nat.{ℕ}
use mathlib.Core.Path.{◌≡◌, refl}
use mathlib.Core.Bool.{Bool, true, false}
use mathlib.Core.List.{List, [], ◌∷◌, ◌++◌, map}
use lib.ListN.{take, set, replicate}
use Rattle.lists.specs.Last.{last_or}
use Rattle.numbers.specs.Leb128.{groups, leb_of}
use Rattle.numbers.specs.LittleEndian.{le, unle}
use Rattle.value.specs.Symbol.{symbol_of}
use Rattle.value.specs.Class.{class_of_all, all_symbols}
use Rattle.value.specs.declared.states.States.TheVariants.{Two}
use Rattle.vcd.specs.Vcd.{symbols_in, vcd_bit}
use Rattle.packed.specs.Packed.{number_of, digits, packed, unpacked}
use Rattle.packed.specs.Raw.{raw_symbols}
use Rattle.signal.specs.Content.{vcd, raw, real, decode}
use Rattle.signal.specs.declared.kind.SignalEncoding.TheVariants.{BitVector}
use Rattle.stream.specs.Stream.{change_bytes}
use Rattle.image.specs.Block.{les, data_of, offsets_from, block_bytes}
use Rattle.image.specs.Head.{head_bytes}
use Rattle.recording.specs.Calls.{Call, time, change, finish, way_of, counted, Reply, refuse, say, total, taken, back, recorded, skipped}
use Rattle.recording.specs.Calls as calls
use Rattle.recording.specs.Work.{items_of, gather}
use Rattle.recording.specs.Memory.{Memory, memory, record_of}
use Rattle.recording.specs.Refusals.{any_bad, start_tests, state_tests}
use Rattle.recording.specs.State.{skip_begun, skip_ended, skip_same, skip_counted, skip_of, with_skip, with_closed, with_held, with_work, with_image, with_edition, settings_of}
use Rattle.recording.specs.Step.{with_state, parts_from, cut_of, time_of, change_of, finish_of, start_of, step, run}
use Rattle.recording.specs.Runs.{lent_with, lent, ran_with, ran_in, ran, image_left, skips, sames}

-- an event at the second and at the third time: d is 1 and 1
pub index-less-previous : image_left 4 (BitVector 0 ∷ []) (time 0 1 ∷ time 0 2 ∷ change 0 0 (vcd []) ∷ time 0 3 ∷ change 0 0 (vcd []) ∷ finish ∷ [])
    ≡ les 4 (1 ∷ 4 ∷ 1 ∷ 63 ∷ 0 ∷ []) ++ (les 4 (43 ∷ 3 ∷ 1 ∷ 1 ∷ []) ++ (les 8 (1 ∷ 2 ∷ 3 ∷ []) ++ (0x00 ∷ 0x01 ∷ 0x01 ∷ [])))
unfolding groups leb_of le unle class_of_all last_or decode change_bytes les data_of offsets_from block_bytes head_bytes way_of skip_of with_skip skip_ended items_of gather any_bad start_tests
    state_tests parts_from cut_of time_of change_of finish_of start_of step run lent_with lent ran_with ran_in ran image_left
index-less-previous = refl

-- the same with a cut between them: the index begins at 0 again
pub index-after-cut : image_left 2 (BitVector 0 ∷ []) (time 0 1 ∷ time 0 2 ∷ change 0 0 (vcd []) ∷ time 0 3 ∷ change 0 0 (vcd []) ∷ finish ∷ [])
    ≡ les 4 (1 ∷ 2 ∷ 2 ∷ 88 ∷ 0 ∷ [])
    ++ (les 4 (34 ∷ 2 ∷ 1 ∷ 1 ∷ []) ++ (les 8 (1 ∷ 2 ∷ []) ++ (0x00 ∷ 0x01 ∷ les 4 (34 ∷ 2 ∷ 1 ∷ 1 ∷ []) ++ (les 8 (2 ∷ 3 ∷ []) ++ (0x00 ∷ 0x01 ∷ [])))))
unfolding groups leb_of le unle class_of_all last_or decode change_bytes les data_of offsets_from block_bytes head_bytes way_of skip_of with_skip skip_ended items_of gather any_bad start_tests
    state_tests parts_from cut_of time_of change_of finish_of start_of step run lent_with lent ran_with ran_in ran image_left
index-after-cut = refl

pub skip-stands : ((ran 4 (BitVector 1 ∷ []) skips).replies
    ≡ say taken ∷ say recorded ∷ say back ∷ say skipped ∷ say calls.same ∷ say skipped ∷ say taken ∷ say recorded ∷ [])
    × ((ran 4 (BitVector 1 ∷ []) skips).last.state.skips.zero.count ≡ 2)
unfolding groups leb_of le unle symbol_of class_of_all symbols_in last_or vcd_bit decode change_bytes les head_bytes way_of skip_of with_skip skip_begun skip_ended skip_same skip_counted any_bad
    start_tests state_tests time_of change_of start_of step run lent_with lent ran_with ran_in ran
skip-stands = (refl, refl)

-- a finish leaves the count
pub count-after-finish : (ran 4 (BitVector 1 ∷ []) (time 0 2 ∷ time 0 1 ∷ change 0 0 (vcd []) ∷ finish ∷ [])).last.state.skips.zero.count ≡ 1
unfolding groups leb_of le unle symbol_of class_of_all symbols_in last_or vcd_bit decode change_bytes les data_of offsets_from block_bytes head_bytes way_of skip_of with_skip skip_begun skip_ended
    skip_same skip_counted items_of gather any_bad start_tests state_tests parts_from cut_of time_of change_of finish_of start_of step run lent_with lent ran_with ran_in ran image_left
count-after-finish = refl

-- the skipped count stays at its top
pub count-stays : (counted 4294967294 ≡ 4294967295) × (counted 4294967295 ≡ 4294967295)
count-stays = (refl, refl)

-- a raw claim of Nine before a cut: the class byte of the next block is 2 still
pub class-after-cut : image_left 2 (BitVector 1 ∷ []) (time 0 1 ∷ change 0 0 (raw 2 (0x01 ∷ [])) ∷ time 0 2 ∷ time 0 3 ∷ change 0 0 (vcd (48 ∷ [])) ∷ finish ∷ [])
    ≡ les 4 (1 ∷ 2 ∷ 2 ∷ 88 ∷ 1 ∷ [])
    ++ (les 4 (34 ∷ 2 ∷ 1 ∷ 1 ∷ []) ++ (les 8 (1 ∷ 2 ∷ []) ++ (0x02 ∷ 0x01 ∷ les 4 (34 ∷ 2 ∷ 1 ∷ 1 ∷ []) ++ (les 8 (2 ∷ 3 ∷ []) ++ (0x02 ∷ 0x10 ∷ [])))))
unfolding groups leb_of le unle symbol_of class_of_all symbols_in last_or vcd_bit number_of digits packed unpacked raw_symbols all_symbols decode change_bytes les data_of offsets_from block_bytes
    head_bytes way_of skip_of with_skip skip_ended items_of gather any_bad start_tests state_tests parts_from cut_of time_of change_of finish_of start_of step run lent_with lent ran_with ran_in ran
    image_left
class-after-cut = refl

-- ---- document 02, (j): an equal time leaves the skip in edition 1, and ends it in edition 2

pub same-stands : ((ran_in 1 4 (BitVector 1 ∷ []) sames).replies
    ≡ say taken ∷ say back ∷ say skipped ∷ say calls.same ∷ say skipped ∷ say calls.same ∷ say skipped ∷ say back ∷ say back ∷ say skipped ∷ [])
    × ((ran_in 1 4 (BitVector 1 ∷ []) sames).last.state.skips.zero.count ≡ 4)
unfolding groups leb_of le unle symbol_of class_of_all symbols_in last_or vcd_bit decode change_bytes les data_of offsets_from block_bytes head_bytes way_of skip_of with_skip skip_begun skip_ended
    skip_same skip_counted items_of gather any_bad start_tests state_tests parts_from cut_of time_of change_of finish_of start_of step run lent_with lent ran_with ran_in
same-stands = (refl, refl)

-- no time is added: the table has the one that was taken
pub same_ends : ((ran_in 2 4 (BitVector 1 ∷ []) sames).replies
    ≡ say taken ∷ say back ∷ say skipped ∷ say calls.same ∷ say recorded ∷ say calls.same ∷ say recorded ∷ say back ∷ say back ∷ say skipped ∷ [])
    × ((ran_in 2 4 (BitVector 1 ∷ []) sames).last.state.skips.zero.count ≡ 2) × ((ran_in 2 4 (BitVector 1 ∷ []) sames).last.state.held ≡ 1)
unfolding groups leb_of le unle symbol_of class_of_all symbols_in last_or vcd_bit decode change_bytes les data_of offsets_from block_bytes head_bytes way_of skip_of with_skip skip_begun skip_ended
    skip_same skip_counted items_of gather any_bad start_tests state_tests parts_from cut_of time_of change_of finish_of start_of step run lent_with lent ran_with ran_in
same_ends = (refl, refl, refl)

-- an event, B 2, times 1, 2 and 1: the table is full and a skip is on. The image has room for its head alone; so many work bytes are used,
-- which are no records
abbrev stuck : (edition work : ℕ) → Memory
stuck e w =
    let m = (run (start_of (settings_of 2 1 e) (lent (BitVector 0 ∷ []) 2 64 20)).memory (time 0 1 ∷ time 0 2 ∷ time 0 1 ∷ [])).last in
    with_state m (with_work m.state w)

abbrev then_change : Memory → (t : ℕ) → List Reply
then_change m t = (run m (time 0 t ∷ change 0 0 (vcd []) ∷ [])).replies

-- a larger time that is refused leaves the skip in both
pub larger-refused : (then_change (stuck 1 0) 3 ≡ refuse 8 ∷ say skipped ∷ []) × (then_change (stuck 2 0) 3 ≡ refuse 8 ∷ say skipped ∷ [])
    × (then_change (stuck 1 1) 3 ≡ refuse 10 ∷ say skipped ∷ []) × (then_change (stuck 2 1) 3 ≡ refuse 10 ∷ say skipped ∷ [])
unfolding groups leb_of le unle symbol_of class_of_all symbols_in last_or vcd_bit decode change_bytes les data_of offsets_from block_bytes head_bytes way_of skip_of with_skip skip_begun skip_ended
    skip_same skip_counted items_of gather any_bad start_tests state_tests parts_from cut_of time_of change_of finish_of start_of step run lent_with lent ran_with ran_in
larger-refused = (refl, refl, refl, refl)

-- an equal one is the same, whatever a cut would meet
pub equal-not-refused : (then_change (stuck 1 1) 2 ≡ say calls.same ∷ say skipped ∷ []) × (then_change (stuck 2 1) 2 ≡ say calls.same ∷ say recorded ∷ [])
unfolding groups leb_of le unle symbol_of class_of_all symbols_in last_or vcd_bit decode change_bytes les data_of offsets_from block_bytes head_bytes way_of skip_of with_skip skip_begun skip_ended
    skip_same skip_counted items_of gather any_bad start_tests state_tests parts_from cut_of time_of change_of finish_of start_of step run lent_with lent ran_with ran_in
equal-not-refused = (refl, refl)

-- a finish cut, and another hand opened the recording again: the last time stands alone in the table
abbrev alone : (edition : ℕ) → Memory
alone e =
    let m = (ran_in e 2 (BitVector 0 ∷ []) (time 0 1 ∷ time 0 2 ∷ time 0 1 ∷ finish ∷ [])).last in
    with_state m (with_closed m.state false)

pub equal-after-cut : (then_change (alone 1) 2 ≡ say calls.same ∷ say skipped ∷ []) × (then_change (alone 2) 2 ≡ say calls.same ∷ say recorded ∷ [])
unfolding groups leb_of le unle symbol_of class_of_all symbols_in last_or vcd_bit decode change_bytes les data_of offsets_from block_bytes head_bytes way_of skip_of with_skip skip_begun skip_ended
    skip_same skip_counted items_of gather any_bad start_tests state_tests parts_from cut_of time_of change_of finish_of start_of step run lent_with lent ran_with ran_in
equal-after-cut = (refl, refl)

-- ---- fullness: exactly enough, and one byte less

-- an event of one stream byte takes nine of work
abbrev on : (times work image : ℕ) → List Call → List Reply
on t w i cs = (run (start_of (settings_of 2 1 1) (lent (BitVector 0 ∷ []) t w i)).memory cs).replies

pub work-full : (on 2 9 64 (time 0 1 ∷ change 0 0 (vcd []) ∷ []) ≡ say taken ∷ say recorded ∷ []) × (on 2 8 64 (time 0 1 ∷ change 0 0 (vcd []) ∷ []) ≡ say taken ∷ refuse 7 ∷ [])
unfolding groups leb_of le unle symbol_of class_of_all symbols_in last_or vcd_bit decode change_bytes les data_of offsets_from block_bytes head_bytes way_of skip_of with_skip skip_ended items_of
    gather any_bad start_tests state_tests parts_from cut_of time_of change_of finish_of start_of step run lent_with lent ran_with ran_in ran image_left
work-full = (refl, refl)

-- a head of 20 bytes and a block of 26
pub image-full : (on 2 9 46 (time 0 1 ∷ change 0 0 (vcd []) ∷ finish ∷ []) ≡ say taken ∷ say recorded ∷ total 46 ∷ [])
    × (on 2 9 45 (time 0 1 ∷ change 0 0 (vcd []) ∷ finish ∷ []) ≡ say taken ∷ say recorded ∷ refuse 8 ∷ [])
unfolding groups leb_of le unle symbol_of class_of_all symbols_in last_or vcd_bit decode change_bytes les data_of offsets_from block_bytes head_bytes way_of skip_of with_skip skip_ended items_of
    gather any_bad start_tests state_tests parts_from cut_of time_of change_of finish_of start_of step run lent_with lent ran_with ran_in ran image_left
image-full = (refl, refl)

-- ---- memory that was altered between calls

-- the memory after a time and a change of width 1, with a state, records and work bytes put in place of what stood there
abbrev opened : Memory
opened = (ran 2 (BitVector 1 ∷ []) (time 0 5 ∷ change 0 0 (vcd (49 ∷ [])) ∷ [])).last

-- a record of no stream bytes: the signal has no changes, and the block 24 bytes
pub no-stream-bytes : let m = opened in
    (step (memory (with_work m.state 8) m.records m.times (set m.work 4 0) m.image) finish).reply ≡ total 44
unfolding groups leb_of le unle symbol_of class_of_all symbols_in last_or vcd_bit decode change_bytes les data_of offsets_from block_bytes head_bytes way_of skip_of with_skip skip_ended items_of
    gather any_bad start_tests state_tests parts_from cut_of time_of change_of finish_of start_of step run lent_with lent ran_with ran_in ran image_left
no-stream-bytes = refl

-- used image bytes below the head: N and total are written over the block
pub head-over-block : let m = (ran 2 [] (time 0 1 ∷ [])).last in
    take 20 (step (with_state m (with_image m.state 0)) finish).memory.image ≡ les 4 (20 ∷ 1 ∷ 1 ∷ 20 ∷ 0 ∷ [])
unfolding groups leb_of le unle symbol_of class_of_all symbols_in last_or vcd_bit decode change_bytes les data_of offsets_from block_bytes head_bytes way_of skip_of with_skip skip_ended items_of
    gather any_bad start_tests state_tests parts_from cut_of time_of change_of finish_of start_of step run lent_with lent ran_with ran_in ran image_left
head-over-block = refl

-- a record's index may be the last one's, not beyond it
pub index-beyond : let m = opened in
    ((step (memory m.state (record_of (BitVector 1) 0 Two 0 ∷ []) m.times m.work m.image) (change 0 0 (vcd (48 ∷ [])))).reply ≡ say recorded)
    × ((step (memory m.state (record_of (BitVector 1) 1 Two 0 ∷ []) m.times m.work m.image) (change 0 0 (vcd (48 ∷ [])))).reply ≡ refuse 10)
unfolding groups leb_of le unle symbol_of class_of_all symbols_in last_or vcd_bit decode change_bytes les data_of offsets_from block_bytes head_bytes way_of skip_of with_skip skip_ended items_of
    gather any_bad start_tests state_tests parts_from cut_of time_of change_of finish_of start_of step run lent_with lent ran_with ran_in ran image_left
index-beyond = (refl, refl)

-- no held time after a cut: finish closes without another block
pub held-lost : let m = (ran 2 [] (time 0 1 ∷ time 0 2 ∷ time 0 3 ∷ [])).last in
    (step (with_state m (with_held m.state 0)) finish).reply ≡ total 44
unfolding groups leb_of le unle symbol_of class_of_all symbols_in last_or vcd_bit decode change_bytes les data_of offsets_from block_bytes head_bytes way_of skip_of with_skip skip_ended items_of
    gather any_bad start_tests state_tests parts_from cut_of time_of change_of finish_of start_of step run lent_with lent ran_with ran_in ran image_left
held-lost = refl

-- an edition that is none, of every later call; a closed recording is told so first
abbrev answers_at : (edition : ℕ) → (closed : Bool) → List Reply
answers_at e c =
    let m = with_state opened (with_closed (with_edition opened.state e) c) in
    map (λ (call : Call). (step m call).reply)
    (time 0 4 ∷ time 0 5 ∷ time 0 6 ∷ change 0 0 (vcd (49 ∷ [])) ∷ change 0 0 (raw 0 (0x01 ∷ [])) ∷ change 0 0 (real 0) ∷ finish ∷ [])

pub edition-altered : (answers_at 0 false ≡ replicate 7 (refuse 10)) × (answers_at 3 false ≡ replicate 7 (refuse 10))
    × (answers_at 0 true ≡ replicate 7 (refuse 2)) × (answers_at 3 true ≡ replicate 7 (refuse 2))
unfolding groups leb_of le unle symbol_of class_of_all symbols_in last_or vcd_bit decode change_bytes les data_of offsets_from block_bytes head_bytes way_of skip_of with_skip skip_begun skip_ended
    skip_same skip_counted items_of gather any_bad start_tests state_tests parts_from cut_of time_of change_of finish_of start_of step run lent_with lent ran_with ran_in ran image_left
edition-altered = (refl, refl, refl, refl)
