-- A pair that the claim speaks of; why it leaves out what it leaves out; and a recorder that it shuts out. All computed.
-- Assumes nothing.
use Prim.Native.Nat.{ℕ}
use mathlib.Core.Path.{◌≡◌, refl}
use mathlib.Core.Bool.{Bool, false, ◌&&◌}
use mathlib.Core.List.{List, [], ◌∷◌, ◌++◌}
use native.Mathlib.Omega.{arith}
use lib.ListN.{length, replicate}
use lib.Dec.{eqb}
use Rattle.lists.specs.Choice.{pick}
use Rattle.lists.specs.Last.{last_or}
use Rattle.lists.specs.Same.{same}
use Rattle.numbers.specs.Leb128.{groups, leb_of, read_leb}
use Rattle.numbers.specs.LittleEndian.{le, unle}
use Rattle.value.specs.Symbol.{symbol_of}
use Rattle.value.specs.Class.{class_of_all, all_symbols}
use Rattle.value.specs.declared.states.States.TheVariants.{Nine}
use Rattle.vcd.specs.Vcd.{symbols_in, vcd_bit}
use Rattle.packed.specs.Packed.{number_of, digits, packed, unpacked}
use Rattle.signal.specs.Content.{vcd, decode}
use Rattle.signal.specs.declared.kind.SignalEncoding.TheVariants.{BitVector}
use Rattle.stream.specs.Stream.{change_bytes, value_after, read_change}
use Rattle.stream.specs.Entries.{stream_bytes}
use Rattle.image.specs.Block.{les, data_of, offsets_from, block_bytes}
use Rattle.image.specs.Head.{head_bytes}
use Rattle.image.specs.Image.{streamed_parts, blocks_bytes, image_bytes}
use Rattle.recording.specs.declared.SignalRecord.{SignalRecord}
use Rattle.recording.specs.Calls.{Call, time, change, finish, Fitting, Heard, taken, back, recorded, skipped, Reply, refuse, say, started, total, way_of}
use Rattle.recording.specs.Calls as calls
use Rattle.recording.specs.Work.{items_of, gather}
use Rattle.recording.specs.Memory.{Memory, memory, After, after, record_of}
use Rattle.recording.specs.Refusals.{any_bad, start_tests, state_tests}
use Rattle.recording.specs.State.{skip_begun, skip_ended, skip_same, skip_counted, skip_of, with_skip, settings_of}
use Rattle.recording.specs.Step.{with_state, skipping, parts_from, cut_of, time_of, change_of, finish_of, start_of, step, run}
use Rattle.recording.specs.Runs.{stale_state}
use Rattle.form.specs.Form.{repeat, each, get_chain}
use Rattle.codec.specs.Layout.{lengths, layout_form}
use Rattle.codec.specs.ImageForm.{stream, block_form, head_form, image_form}
use Rattle.codec.specs.Valid.{rising_from?, rising?, each_below?, known_kinds?, content_fits?, entry_fits?, entries_fit?, part_fits?, parts_fit?, starts?, block_fits?, blocks_fit?, valid?}
use Rattle.codec.specs.Parse.{parse}
use Rattle.loaded.specs.Loading.{moved, repeats_last, pushed, load_from}
use Rattle.loaded.specs.EntryBytes.{entry_bytes, entries_bytes}
use Rattle.loaded.specs.Reader.{load_of, load_after, loaded, load_in}
use Rattle.demand.specs.Demand3.{RecordsFit, Lent, Recorded, ran_from, left_by}
use Rattle.demand.proofs.RunLoads.{stale-fits, nines-at, nines-slice, one}
use Rattle.probes.specs.Probes.{to_one, Pair}
use Rattle.probes.specs.Probes as probes

-- B 2, and these records
abbrev lent_to : List SignalRecord → (work image : ℕ) → Memory
lent_to rs w i = memory stale_state rs (replicate 2 99) (replicate w 99) (replicate i 99)

abbrev ran_on : List SignalRecord → (work image : ℕ) → List Call → List Reply
ran_on rs w i cs = (ran_from (settings_of 2 (length rs) 1) (lent_to rs w i) cs).replies

-- signal 0 of width 1, probe 0's; and signal 1 of width 1, probe 1's
abbrev zeros : List SignalRecord
zeros = record_of (BitVector 1) 7 Nine 0 ∷ []

abbrev both : List SignalRecord
both = record_of (BitVector 1) 7 Nine 0 ∷ record_of (BitVector 1) 7 Nine 1 ∷ []

abbrev shared : Memory
shared = lent_to both 18 64

-- values "1" and "q", which is none
abbrev good : List ℕ
good = 49 ∷ []

abbrev bad : List ℕ
bad = 113 ∷ []

-- ---- a pair: probe 0's value is recorded in one and bad in the other, so that the images have 56 and 54 bytes

abbrev lists : List ℕ → List Call
lists v = time 0 5 ∷ change 0 0 (vcd v) ∷ change 1 1 (vcd good) ∷ []

shared-lent : Lent shared
unfolding RecordsFit
shared-lent = record {
  state = stale-fits;
  records = ((omega arith, omega arith, omega arith), ((omega arith, omega arith, omega arith), tt));
  work = nines-slice 18 (omega arith);
  image = nines-slice 64 (omega arith);
  times = λ i. let h = nines-at 2 i in omega arith;
  long = omega arith;
}

good-fits : Fitting (lists good)
unfolding Fitting
good-fits = ((omega arith, omega arith), ((omega arith, omega arith, one 49 (omega arith)), ((omega arith, omega arith, one 49 (omega arith)), tt)))

bad-fits : Fitting (lists bad)
unfolding Fitting
bad-fits = ((omega arith, omega arith), ((omega arith, omega arith, one 113 (omega arith)), ((omega arith, omega arith, one 49 (omega arith)), tt)))

good-recorded : Recorded (settings_of 2 2 1) shared (lists good) 56
unfolding groups leb_of le unle symbol_of class_of_all symbols_in last_or vcd_bit decode change_bytes les data_of offsets_from block_bytes head_bytes way_of skip_of with_skip skip_begun skip_ended
    skip_same skip_counted items_of gather any_bad start_tests state_tests parts_from cut_of time_of change_of finish_of start_of step run to_one
good-recorded = record { lent = shared-lent; fitting = good-fits; start = refl; end = refl }

bad-recorded : Recorded (settings_of 2 2 1) shared (lists bad) 54
unfolding groups leb_of le unle symbol_of class_of_all symbols_in last_or vcd_bit decode change_bytes les data_of offsets_from block_bytes head_bytes way_of skip_of with_skip skip_begun skip_ended
    skip_same skip_counted items_of gather any_bad start_tests state_tests parts_from cut_of time_of change_of finish_of start_of step run to_one
bad-recorded = record { lent = shared-lent; fitting = bad-fits; start = refl; end = refl }

-- an answer that is no refusal, and a refusal by another number
said : {a : Heard} (n : ℕ) → say a ≡ refuse n → ⊥
said n e = let z : ◌≡◌ {A = ℕ} 0 1 = cc in omega arith

six : (n : ℕ) → (6 ≡ n → ⊥) → refuse 6 ≡ refuse n → ⊥
six n f e = let z : 6 ≡ n = cc in f z

pub pair : Pair (settings_of 2 2 1) shared (lists good) (lists bad) 56 54
unfolding groups leb_of le unle symbol_of class_of_all symbols_in last_or vcd_bit decode change_bytes les data_of offsets_from block_bytes head_bytes way_of skip_of with_skip skip_begun skip_ended
    skip_same skip_counted items_of gather any_bad start_tests state_tests parts_from cut_of time_of change_of finish_of start_of step run to_one
pair = record {
  first = good-recorded;
  second = bad-recorded;
  alike = probes.same (time 0 5) _ _ (probes.value 0 (vcd good) (vcd bad) _ _ (probes.same (change 1 1 (vcd good)) _ _ probes.none));
  first-room = ((said _, said _), ((said _, said _), ((said _, said _), tt)));
  second-room = ((said _, said _), ((six _ (λ z. omega arith), six _ (λ z. omega arith)), ((said _, said _), tt)));
}

-- one time, and at it both changes or probe 1's alone
abbrev good_image : List ℕ
good_image = les 4 (2 ∷ 2 ∷ 1 ∷ 56 ∷ 1 ∷ 1 ∷ []) ++ (les 4 (32 ∷ 1 ∷ 2 ∷ 1 ∷ 3 ∷ []) ++ (les 8 (5 ∷ []) ++ (0x00 ∷ 0x01 ∷ 0x00 ∷ 0x01 ∷ [])))

abbrev bad_image : List ℕ
bad_image = les 4 (2 ∷ 2 ∷ 1 ∷ 54 ∷ 1 ∷ 1 ∷ []) ++ (les 4 (30 ∷ 1 ∷ 2 ∷ 0 ∷ 1 ∷ []) ++ (les 8 (5 ∷ []) ++ (0x00 ∷ 0x01 ∷ [])))

pub pair_left : (left_by (settings_of 2 2 1) shared (lists good) 56 ≡ good_image) × (left_by (settings_of 2 2 1) shared (lists bad) 54 ≡ bad_image)
unfolding groups leb_of le unle symbol_of class_of_all symbols_in last_or vcd_bit decode change_bytes les data_of offsets_from block_bytes head_bytes way_of skip_of with_skip skip_begun skip_ended
    skip_same skip_counted items_of gather any_bad start_tests state_tests parts_from cut_of time_of change_of finish_of start_of step run to_one
pair_left = (refl, refl)

-- what is loaded of signal 0 differs; of signal 1 it is the same, as the claim says
pub pair-loads : (load_of good_image 0 (9 ∷ []) (9 ∷ []) ≡ load_after (loaded 1 0) (0 ∷ []) (1 ∷ [])) × (load_of bad_image 0 (9 ∷ []) (9 ∷ []) ≡ load_after (loaded 0 2) (9 ∷ []) (9 ∷ []))
    × (load_of good_image 1 (9 ∷ []) (9 ∷ []) ≡ load_after (loaded 1 0) (0 ∷ []) (1 ∷ [])) × (load_of bad_image 1 (9 ∷ []) (9 ∷ []) ≡ load_after (loaded 1 0) (0 ∷ []) (1 ∷ []))
unfolding les parse image_form head_form block_form layout_form repeat each lengths unle read_leb stream get_chain read_change value_after unpacked class_of_all all_symbols digits number_of
    last_or image_bytes blocks_bytes streamed_parts stream_bytes head_bytes block_bytes data_of offsets_from le leb_of groups change_bytes packed rising_from? rising? each_below? known_kinds?
    content_fits? entry_fits? entries_fit? part_fits? parts_fit? starts? block_fits? blocks_fit? valid? moved repeats_last pushed load_from entry_bytes entries_bytes load_in same
pair-loads = (refl, refl, refl, refl)

-- ---- what is left out

-- 9 work bytes hold one change
pub work-shared : (ran_on both 9 64 (lists good) ≡ say taken ∷ say recorded ∷ refuse 7 ∷ []) × (ran_on both 9 64 (lists bad) ≡ say taken ∷ refuse 6 ∷ say recorded ∷ [])
unfolding groups leb_of le unle symbol_of class_of_all symbols_in last_or vcd_bit decode change_bytes les data_of offsets_from block_bytes head_bytes way_of skip_of with_skip skip_begun skip_ended
    skip_same skip_counted items_of gather any_bad start_tests state_tests parts_from cut_of time_of change_of finish_of start_of step run to_one
work-shared = (refl, refl)

-- a head of 20 bytes; a block of 32 bytes without changes, and 34 with one
abbrev cutting : List ℕ → List Call
cutting v = time 1 1 ∷ time 1 2 ∷ change 0 0 (vcd v) ∷ time 1 3 ∷ []

pub image-shared : (ran_on zeros 9 52 (cutting good) ≡ say taken ∷ say taken ∷ say recorded ∷ refuse 8 ∷ [])
    × (ran_on zeros 9 52 (cutting bad) ≡ say taken ∷ say taken ∷ refuse 6 ∷ say taken ∷ [])
unfolding groups leb_of le unle symbol_of class_of_all symbols_in last_or vcd_bit decode change_bytes les data_of offsets_from block_bytes head_bytes way_of skip_of with_skip skip_begun skip_ended
    skip_same skip_counted items_of gather any_bad start_tests state_tests parts_from cut_of time_of change_of finish_of start_of step run to_one
image-shared = (refl, refl)

pub table-shared : (ran_on [] 0 16 (time 0 0 ∷ time 1 0 ∷ []) ≡ say taken ∷ say calls.same ∷ []) × (ran_on [] 0 16 (time 0 1 ∷ time 1 0 ∷ []) ≡ say taken ∷ say back ∷ [])
unfolding groups leb_of le unle symbol_of class_of_all symbols_in last_or vcd_bit decode change_bytes les data_of offsets_from block_bytes head_bytes way_of skip_of with_skip skip_begun skip_ended
    skip_same skip_counted items_of gather any_bad start_tests state_tests parts_from cut_of time_of change_of finish_of start_of step run to_one
table-shared = (refl, refl)

-- a file of probe 0, `#1`, a value, `#2`, and then a time 2 of probe 1: the bad value ends the file, so that its time 2 is not sent
pub file-ended : (ran_on zeros 9 64 (time 0 1 ∷ change 0 0 (vcd good) ∷ time 0 2 ∷ time 1 2 ∷ []) ≡ say taken ∷ say recorded ∷ say taken ∷ say calls.same ∷ [])
    × (ran_on zeros 9 64 (time 0 1 ∷ change 0 0 (vcd bad) ∷ time 1 2 ∷ []) ≡ say taken ∷ refuse 6 ∷ say taken ∷ [])
unfolding groups leb_of le unle symbol_of class_of_all symbols_in last_or vcd_bit decode change_bytes les data_of offsets_from block_bytes head_bytes way_of skip_of with_skip skip_begun skip_ended
    skip_same skip_counted items_of gather any_bad start_tests state_tests parts_from cut_of time_of change_of finish_of start_of step run to_one
file-ended = (refl, refl)

-- ---- a recorder that leaks a value of probe 0: a bad one makes it skip the changes of probe 1

abbrev bad_value : Reply → Bool
bad_value (refuse n) = eqb n 6
bad_value (say a) = false
bad_value started = false
bad_value (total n) = false

abbrev leaked : Call → After → After
leaked (time p t) e = e
leaked (change p g v) e = pick (eqb p 0 && bad_value e.reply) (after e.reply (with_state e.memory (skipping e.memory.state 1))) e
leaked finish e = e

unfoldable pub leaky_run : Memory → List Call → List Reply
leaky_run m [] = []
leaky_run m (c ∷ cs) = let e = leaked c (step m c) in e.reply ∷ leaky_run e.memory cs

abbrev leaky : List ℕ → List Reply
leaky v = leaky_run (start_of (settings_of 2 2 1) shared).memory (lists v ++ finish ∷ [])

-- on the pair it meets neither 7 nor 8 and finishes, and its answers to probe 1 differ
pub leak-shows : (leaky good ≡ say taken ∷ say recorded ∷ say recorded ∷ total 56 ∷ []) × (leaky bad ≡ say taken ∷ refuse 6 ∷ say skipped ∷ total 52 ∷ [])
    × (to_one (lists good) (leaky good) ≡ say recorded ∷ []) × (to_one (lists bad) (leaky bad) ≡ say skipped ∷ [])
unfolding groups leb_of le unle symbol_of class_of_all symbols_in last_or vcd_bit decode change_bytes les data_of offsets_from block_bytes head_bytes way_of skip_of with_skip skip_begun skip_ended
    skip_same skip_counted items_of gather any_bad start_tests state_tests parts_from cut_of time_of change_of finish_of start_of step run to_one leaky_run
leak-shows = (refl, refl, refl, refl)
