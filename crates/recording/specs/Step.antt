-- Document 01, 'Recording' and 'Block and image': what start, time, change and finish do to the state and the lent memory.
-- Assumes nothing.
use Rattle.std.specs.Prelude.{ℕ, suc, ◌+◌, ◌-◌, max, true, false, List, [], ◌∷◌, ◌++◌, map, length, take, get_or, set, ltb, eqb}
use Rattle.std.proofs.Math.Option.{Option, some, none}
use Rattle.std.proofs.lemmas.List.Edits.{sets}
use Rattle.lists.specs.Choice.{pick}
use Rattle.numbers.specs.LittleEndian.{le}
use Rattle.value.specs.Class.{class_number, states_of}
use Rattle.value.specs.declared.states.States.TheVariants.{Two}
use Rattle.signal.specs.declared.kind.SignalEncoding.{SignalEncoding}
use Rattle.signal.specs.Content.{Given, Decoded, refuse, accept, decode}
use Rattle.stream.specs.Stream.{change_bytes}
use Rattle.image.specs.Block.{Part, Block, part, block, block_bytes}
use Rattle.image.specs.Head.{head_bytes, head_size}
use Rattle.recording.specs.declared.Encoder.{Encoder}
use Rattle.recording.specs.declared.Settings.{Settings}
use Rattle.recording.specs.declared.SignalRecord.{SignalRecord}
use Rattle.recording.specs.Calls.{Call, time, change, finish, taken, same, back, recorded, skipped, Reply, say, started, total, Way, above, equal, below, way_of}
use Rattle.recording.specs.State.{skip_begun, skip_ended, skip_same, skip_counted, skip_of, on_skip, with_closed, with_held, with_work, with_image, with_blocks, with_skips, start_state}
use Rattle.recording.specs.Work.{Item, item, item_bytes, items_of, gather}
use Rattle.recording.specs.Memory.{Memory, memory, After, after, record_of, record_at, guarded, refused}
use Rattle.recording.specs.Refusals.{no_probe, any_bad, start_tests, open_tests, early_tests, signal_tests, room_tests}

abbrev pub with_state : Memory → Encoder → Memory
with_state m s = memory s m.records m.times m.work m.image

-- ---- a cut

-- a signal with no stream bytes has no part
abbrev pub part_from : (top : ℕ) → List ℕ → Option (Part (List ℕ))
part_from t [] = none
part_from t (x ∷ s) = some (part t (x ∷ s))

unfoldable pub parts_from : (signal : ℕ) → List SignalRecord → List Item → List (Option (Part (List ℕ)))
parts_from g [] is = []
parts_from g (r ∷ rs) is = part_from (class_number r.top) (gather g is) ∷ parts_from (suc g) rs is

abbrev pub cut_block : Memory → List Item → Block (List ℕ)
cut_block m is = block (take m.state.held m.times) (parts_from 0 m.records is)

-- each record's index is 0 again; its top class and probe stay
abbrev pub rewound : SignalRecord → SignalRecord
rewound r = record_of r.kind 0 r.top r.probe

-- one block more, of so many bytes; the next table has one time, and the work buffer is empty
abbrev pub with_cut : Encoder → (size : ℕ) → Encoder
with_cut s n = with_blocks (with_image (with_work (with_held s 1) 0) (s.image + n)) (s.blocks + 1)

-- the block from the first unused byte on, then N and total over it (in that order, which shows only where used bytes are altered to
-- less than a head); the next table begins with the old last time, after a finish too; the work buffer is empty
abbrev pub cut_in : Memory → List ℕ → Memory
cut_in m b =
    let s = m.state in
    memory (with_cut s (length b))
    (map rewound m.records)
    (set m.times 0 (get_or m.times (s.held - 1) 0))
    m.work
    (sets (sets m.image s.image b) 8 (le 4 (s.blocks + 1) ++ le 4 (s.image + length b)))

pub data Cut : Type 0 where
  noCut : ℕ → Cut
  cuts : List ℕ → Cut

-- 10: the work does not divide into records of numbers below S. 8: the block exceeds the unused image bytes
abbrev pub cut_items : Memory → Option (List Item) → Cut
cut_items m none = noCut 10
cut_items m (some is) =
    pick (ltb (length m.image - m.state.image) (length (block_bytes (cut_block m is)))) (noCut 8) (cuts (block_bytes (cut_block m is)))

unfoldable pub cut_of : Memory → Cut
cut_of m = cut_items m (items_of m.state.work m.state.signals (take m.state.work m.work))

-- ---- time

-- a taken time joins the table and ends the skip of its sender
abbrev pub timed_state : Encoder → (sender : ℕ) → Encoder
timed_state s p = with_skips (with_held s (s.held + 1)) (on_skip skip_ended s.skips p)

abbrev pub timed : Memory → (sender t : ℕ) → Memory
timed m p t = memory (timed_state m.state p) m.records (set m.times m.state.held t) m.work m.image

-- document 02, (j): an equal time may end the skip of its sender
abbrev pub same_time : Encoder → (sender : ℕ) → Encoder
same_time s p = with_skips s (on_skip (skip_same s.edition) s.skips p)

abbrev pub skipping : Encoder → (sender : ℕ) → Encoder
skipping s p = with_skips s (on_skip skip_begun s.skips p)

abbrev pub time_cut : Memory → (sender t : ℕ) → Cut → After
time_cut m p t (noCut n) = refused m n
time_cut m p t (cuts b) = after (say taken) (timed (cut_in m b) p t)

-- a larger time than the last, whoever sent that, is taken, after a cut if the table already holds B times; an equal one adds no time, and ends
-- the skip of its sender in edition 2; a smaller one starts it
abbrev pub time_by : Memory → (sender t : ℕ) → Way → After
time_by m p t above = pick (eqb m.state.held m.state.limit) (time_cut m p t (cut_of m)) (after (say taken) (timed m p t))
time_by m p t equal = after (say same) (with_state m (same_time m.state p))
time_by m p t below = after (say back) (with_state m (skipping m.state p))

-- 2, 18, 10 (first group), then 10 (second group) and 8 of a cut
unfoldable pub time_of : Memory → (sender t : ℕ) → After
time_of m p t = guarded (open_tests m (no_probe p)) (refused m) (time_by m p t (way_of (take m.state.held m.times) t))

-- ---- change

abbrev pub skipped_one : Encoder → (sender : ℕ) → Encoder
skipped_one s p = with_skips s (on_skip skip_counted s.skips p)

-- the signal's record has the last time's index and a top class of at least c; the work buffer has the change's record
abbrev pub recorded_in : Memory → (signal : ℕ) → (stream : List ℕ) → (c : ℕ) → Memory
recorded_in m g b c =
    let s = m.state in
    let r = record_at m g in
    memory (with_work s (s.work + (8 + length b)))
    (set m.records g (record_of r.kind (s.held - 1) (states_of (max (class_number r.top) c)) r.probe))
    m.times
    (sets m.work s.work (item_bytes (item g b)))
    m.image

-- d is the last time's index less the record's; a record's index beyond the last is refused before d is used
abbrev pub change_by : Memory → (signal : ℕ) → Decoded → After
change_by m g (refuse n) = refused m n
change_by m g (accept a c) =
    let b = change_bytes (record_at m g).kind (m.state.held - 1 - (record_at m g).index) a in
    guarded (room_tests m.state (record_at m g) (length m.work) (length b)) (refused m) (after (say recorded) (recorded_in m g b c))

-- 2, 18 of the sender, 10 (first group), 3, the sender's skip, 4, 18 of the record, 5, 6, 10 (second group), 7. It falls at the last time,
-- whoever sent that
unfoldable pub change_of : Memory → (sender signal : ℕ) → Given → After
change_of m p g v =
    guarded (open_tests m (no_probe p)) (refused m)
    (guarded (early_tests m.state) (refused m)
    (pick (skip_of m.state.skips p).on (after (say skipped) (with_state m (skipped_one m.state p)))
    (guarded (signal_tests m.state (record_at m g) p g) (refused m)
    (change_by m g (decode (record_at m g).kind v)))))

-- ---- finish

abbrev pub closed_now : Encoder → Encoder
closed_now s = with_closed s true

abbrev pub closing : Memory → After
closing m = after (total m.state.image) (with_state m (closed_now m.state))

abbrev pub finish_cut : Memory → Cut → After
finish_cut m (noCut n) = refused m n
finish_cut m (cuts b) = closing (cut_in m b)

-- cuts if any time is held, and closes; it answers the total bytes. It names no sender, so none is foreign
unfoldable pub finish_of : Memory → After
finish_of m = guarded (open_tests m false) (refused m) (pick (eqb m.state.held 0) (closing m) (finish_cut m (cut_of m)))

-- ---- start

abbrev pub fresh : SignalRecord → SignalRecord
fresh r = record_of r.kind 0 Two r.probe

abbrev pub kind_in : SignalRecord → SignalEncoding
kind_in r = r.kind

abbrev pub kinds_of : List SignalRecord → List SignalEncoding
kinds_of = map kind_in

-- a head with N = 0 and total 16 + 4S, each record's index and class 0; its kind and probe stay
unfoldable pub start_of : Settings → Memory → After
start_of settings m =
    guarded (start_tests settings (length m.records) (any_bad m.records) (length m.times) (length m.image)) (refused m)
    (after started
    (memory (start_state settings)
    (map fresh m.records) m.times m.work
    (sets m.image 0 (head_bytes settings.limit 0 (head_size settings.signals) (kinds_of m.records)))))

-- ---- lists of calls

unfoldable pub step : Memory → Call → After
step m (time p t) = time_of m p t
step m (change p g v) = change_of m p g v
step m finish = finish_of m

pub record Ran : Type 0 where
  pub replies : List Reply
  pub last : Memory

-- each on the memory that the one before left
unfoldable pub run : Memory → List Call → Ran
run m [] = record { replies = []; last = m }
run m (c ∷ cs) = let e = step m c in let r = run e.memory cs in record { replies = e.reply ∷ r.replies; last = r.last }
