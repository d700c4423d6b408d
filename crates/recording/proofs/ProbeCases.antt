-- Document 02, (k): two probes, computed.
-- Assumes nothing.
use Prim.Native.Nat.{ℕ}
use mathlib.Core.Path.{◌≡◌, refl}
use mathlib.Core.Bool.{Bool, true, false}
use mathlib.Core.List.{List, [], ◌∷◌, ◌++◌}
use lib.ListN.{take}
use Rattle.lists.specs.Last.{last_or}
use Rattle.numbers.specs.Leb128.{groups, leb_of}
use Rattle.numbers.specs.LittleEndian.{le, unle}
use Rattle.value.specs.Symbol.{symbol_of}
use Rattle.value.specs.Class.{class_of_all}
use Rattle.value.specs.declared.states.States.TheVariants.{Two}
use Rattle.vcd.specs.Vcd.{symbols_in, vcd_bit}
use Rattle.signal.specs.Content.{vcd, real, decode}
use Rattle.signal.specs.declared.kind.SignalEncoding.TheVariants.{BitVector, Absent}
use Rattle.stream.specs.Stream.{change_bytes}
use Rattle.image.specs.Block.{les, data_of, offsets_from, block_bytes}
use Rattle.image.specs.Head.{head_bytes}
use Rattle.recording.specs.declared.SignalRecord.{SignalRecord}
use Rattle.recording.specs.declared.Skips.{Skips}
use Rattle.recording.specs.Calls.{Call, time, change, finish, way_of, Reply, refuse, say, total, taken, back, recorded, skipped}
use Rattle.recording.specs.Calls as calls
use Rattle.recording.specs.Work.{items_of, gather}
use Rattle.recording.specs.Memory.{Memory, memory, record_of, refused}
use Rattle.recording.specs.Refusals.{any_bad, start_tests, state_tests}
use Rattle.recording.specs.State.{probe_skip, both_skips, skip_begun, skip_ended, skip_same, skip_counted, skip_of, with_skip, settings_of, with_skips}
use Rattle.recording.specs.Step.{with_state, parts_from, cut_of, time_of, change_of, finish_of, start_of, step, run}
use Rattle.recording.specs.Runs.{stale_of, lent_with, ran_with, two_probes, returns}

-- widths 1 and 1 and an absent signal, of probes 0, 1 and 1
abbrev both : List SignalRecord
both = stale_of 0 (BitVector 1) ∷ stale_of 1 (BitVector 1) ∷ stale_of 1 Absent ∷ []

-- a sender above 1; a skip of probe 1 that a time of probe 0 does not end; absent before the record's probe
pub probes-apart : let r = ran_with 1 3 both two_probes in
    (r.replies
    ≡ refuse 18 ∷ say taken ∷ say calls.same ∷ say back ∷ say skipped ∷ say skipped ∷ say taken ∷ say skipped ∷ refuse 4 ∷ say skipped ∷ say calls.same ∷ say taken
    ∷ refuse 4 ∷ refuse 4 ∷ refuse 18 ∷ say recorded ∷ [])
    × (r.last.state.skips.zero.count ≡ 0) × (r.last.state.skips.one.count ≡ 4)
unfolding groups leb_of le unle symbol_of class_of_all symbols_in last_or vcd_bit decode change_bytes les data_of offsets_from block_bytes head_bytes way_of skip_of with_skip skip_begun skip_ended
    skip_same skip_counted items_of gather any_bad start_tests state_tests parts_from cut_of time_of change_of finish_of start_of step run lent_with ran_with
probes-apart = (refl, refl, refl)

-- in edition 2 an equal time ends the skip of its sender only, also one that is equal to a time of the other probe
pub returns-apart : let one = ran_with 1 4 both returns in
    let two = ran_with 2 4 both returns in
    (one.replies ≡ say taken ∷ say back ∷ say calls.same ∷ say skipped ∷ say taken ∷ say skipped ∷ say calls.same ∷ say skipped ∷ say recorded ∷ [])
    × (two.replies ≡ say taken ∷ say back ∷ say calls.same ∷ say skipped ∷ say taken ∷ say skipped ∷ say calls.same ∷ say recorded ∷ say recorded ∷ [])
    × (one.last.state.skips ≡ both_skips (probe_skip false 0) (probe_skip true 3)) × (two.last.state.skips ≡ both_skips (probe_skip false 0) (probe_skip false 2))
unfolding groups leb_of le unle symbol_of class_of_all symbols_in last_or vcd_bit decode change_bytes les data_of offsets_from block_bytes head_bytes way_of skip_of with_skip skip_begun skip_ended
    skip_same skip_counted items_of gather any_bad start_tests state_tests parts_from cut_of time_of change_of finish_of start_of step run lent_with ran_with
returns-apart = (refl, refl, refl, refl)

-- a change falls at the last time, whoever sent that: of probe 0 at the time 6 of probe 1, whose index is 1
pub at-shared-time : let r = ran_with 1 3 both (time 0 5 ∷ time 1 6 ∷ change 0 0 (vcd (49 ∷ [])) ∷ []) in
    take 9 r.last.work ≡ les 4 (0 ∷ 1 ∷ []) ++ (0x11 ∷ [])
unfolding groups leb_of le unle symbol_of class_of_all symbols_in last_or vcd_bit decode change_bytes les data_of offsets_from block_bytes head_bytes way_of skip_of with_skip skip_begun skip_ended
    skip_same skip_counted items_of gather any_bad start_tests state_tests parts_from cut_of time_of change_of finish_of start_of step run lent_with ran_with
at-shared-time = refl

-- a bad value of probe 0 spoils only itself
pub bad-value-alone : (ran_with 1 3 both (time 0 5 ∷ change 0 0 (vcd (113 ∷ [])) ∷ change 1 1 (vcd (49 ∷ [])) ∷ [])).replies ≡ say taken ∷ refuse 6 ∷ say recorded ∷ []
unfolding groups leb_of le unle symbol_of class_of_all symbols_in last_or vcd_bit decode change_bytes les data_of offsets_from block_bytes head_bytes way_of skip_of with_skip skip_begun skip_ended
    skip_same skip_counted items_of gather any_bad start_tests state_tests parts_from cut_of time_of change_of finish_of start_of step run lent_with ran_with
bad-value-alone = refl

-- both probes skip, with these counts; a change of sender p
abbrev counting : (zero one p : ℕ) → Skips
counting a b p =
    let m = (ran_with 1 3 both (time 0 5 ∷ time 0 4 ∷ time 1 4 ∷ [])).last in
    (step (with_state m (with_skips m.state (both_skips (probe_skip true a) (probe_skip true b)))) (change p 9 (vcd []))).memory.state.skips

-- each count stays at its top by itself
pub counts-stay : (counting 4294967295 7 0 ≡ both_skips (probe_skip true 4294967295) (probe_skip true 7))
    × (counting 4294967295 7 1 ≡ both_skips (probe_skip true 4294967295) (probe_skip true 8))
    × (counting 7 4294967295 0 ≡ both_skips (probe_skip true 8) (probe_skip true 4294967295))
    × (counting 4294967295 4294967295 1 ≡ both_skips (probe_skip true 4294967295) (probe_skip true 4294967295))
unfolding groups leb_of le unle symbol_of class_of_all symbols_in last_or vcd_bit decode change_bytes les data_of offsets_from block_bytes head_bytes way_of skip_of with_skip skip_begun skip_ended
    skip_same skip_counted items_of gather any_bad start_tests state_tests parts_from cut_of time_of change_of finish_of start_of step run lent_with ran_with
counts-stay = (refl, refl, refl, refl)

-- ---- a sender that is no probe, and records that name none

abbrev replies : Memory → List Call → List Reply
replies m [] = []
replies m (c ∷ cs) = (step m c).reply ∷ replies m cs

abbrev asked : (sender : ℕ) → List Call
asked p = time p 5 ∷ change p 0 (vcd (49 ∷ [])) ∷ change p 0 (real 0) ∷ []

-- before any time; with B altered to 1; that recording closed
abbrev early : Memory
early = (ran_with 1 3 both []).last

abbrev altered : (closed : Bool) → Memory
altered c =
    let m = (ran_with 1 3 both (time 0 5 ∷ [])).last in
    let s = m.state in
    with_state m
    (record { closed = c; limit = 1; signals = s.signals; held = s.held; work = s.work; image = s.image; blocks = s.blocks; edition = s.edition; skips = s.skips })

-- 18 of the sender comes after 2, before 10 and before 3
pub sender-first : (replies early (asked 2) ≡ refuse 18 ∷ refuse 18 ∷ refuse 18 ∷ []) × (replies early (asked 0) ≡ say taken ∷ refuse 3 ∷ refuse 3 ∷ [])
    × (replies (altered false) (asked 2) ≡ refuse 18 ∷ refuse 18 ∷ refuse 18 ∷ []) × (replies (altered false) (asked 0) ≡ refuse 10 ∷ refuse 10 ∷ refuse 10 ∷ [])
    × (replies (altered true) (asked 2) ≡ refuse 2 ∷ refuse 2 ∷ refuse 2 ∷ [])
unfolding groups leb_of le unle symbol_of class_of_all symbols_in last_or vcd_bit decode change_bytes les data_of offsets_from block_bytes head_bytes way_of skip_of with_skip skip_begun skip_ended
    skip_same skip_counted items_of gather any_bad start_tests state_tests parts_from cut_of time_of change_of finish_of start_of step run lent_with ran_with
sender-first = (refl, refl, refl, refl, refl)

-- a sender above 1 is nobody's: while probe 1 skips its changes are not counted, and its times neither end nor begin a skip
pub sender-in-skip : let r = ran_with 1 3 both (time 1 5 ∷ time 1 4 ∷ change 2 1 (vcd (49 ∷ [])) ∷ time 2 3 ∷ time 2 9 ∷ change 1 1 (vcd (49 ∷ [])) ∷ change 0 0 (vcd (49 ∷ [])) ∷ []) in
    (r.replies ≡ say taken ∷ say back ∷ refuse 18 ∷ refuse 18 ∷ refuse 18 ∷ say skipped ∷ say recorded ∷ [])
    × (r.last.state.skips ≡ both_skips (probe_skip false 0) (probe_skip true 1)) × (r.last.state.held ≡ 1)
unfolding groups leb_of le unle symbol_of class_of_all symbols_in last_or vcd_bit decode change_bytes les data_of offsets_from block_bytes head_bytes way_of skip_of with_skip skip_begun skip_ended
    skip_same skip_counted items_of gather any_bad start_tests state_tests parts_from cut_of time_of change_of finish_of start_of step run lent_with ran_with
sender-in-skip = (refl, refl, refl)

-- a record that another hand altered to name no probe: 18 to everyone, after 4, and the recording finishes
pub record-of-none : let m = (ran_with 1 3 both (time 0 5 ∷ change 0 0 (vcd (49 ∷ [])) ∷ [])).last in
    let other = memory m.state (record_of (BitVector 1) 0 Two 7 ∷ record_of (BitVector 1) 0 Two 1 ∷ record_of Absent 0 Two 7 ∷ []) m.times m.work m.image in
    replies other (change 0 0 (vcd (49 ∷ [])) ∷ change 1 0 (vcd (49 ∷ [])) ∷ change 7 0 (vcd (49 ∷ [])) ∷ change 0 2 (vcd []) ∷ change 1 1 (vcd (49 ∷ [])) ∷ finish ∷ [])
    ≡ refuse 18 ∷ refuse 18 ∷ refuse 18 ∷ refuse 4 ∷ say recorded ∷ total 62 ∷ []
unfolding groups leb_of le unle symbol_of class_of_all symbols_in last_or vcd_bit decode change_bytes les data_of offsets_from block_bytes head_bytes way_of skip_of with_skip skip_begun skip_ended
    skip_same skip_counted items_of gather any_bad start_tests state_tests parts_from cut_of time_of change_of finish_of start_of step run lent_with ran_with
record-of-none = refl

-- a start refuses a record that names neither probe
pub probe-2 : let m = lent_with (stale_of 1 (BitVector 1) ∷ stale_of 2 (BitVector 1) ∷ []) 2 8 32 in start_of (settings_of 2 2 1) m ≡ refused m 1
unfolding any_bad start_tests start_of lent_with
probe-2 = refl
