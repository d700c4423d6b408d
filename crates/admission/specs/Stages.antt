-- What the code answers on the way of a change: whether its value is looked at, whether its record begins, and what a recorded one leaves.
-- Assumes nothing.
use Rattle.std.specs.Prelude.{ℕ, ◌+◌, ◌-◌, max, List, ◌++◌, Result, Ok, Err}
use Rattle.std.proofs.lemmas.List.Edits.{sets}
use Rattle.lists.specs.Choice.{pick}
use Rattle.refusal.specs.declared.Refusal.{Refusal}
use Rattle.refusal.specs.Refusal.{refusal_number}
use Rattle.numbers.specs.LittleEndian.{le}
use Rattle.value.specs.Class.{class_number, states_of}
use Rattle.signal.specs.declared.decode.ChangeValue.{ChangeValue}
use Rattle.signal.specs.Kind.{width_of}
use Rattle.stream.specs.Answer.{change_length}
use Rattle.recording.specs.declared.Encoder.{Encoder}
use Rattle.recording.specs.declared.SignalRecord.{SignalRecord}
use Rattle.recording.specs.Memory.{record_of, guarded}
use Rattle.recording.specs.Refusals.{no_probe, state_tests, early_tests, signal_tests, room_tests}
use Rattle.recording.specs.State.{skip_of, with_work}
use Rattle.admission.specs.declared.Admission.{Admission}
use Rattle.admission.specs.declared.Admission.TheVariants as admission

-- an answer, or the number of its refusal
abbrev pub numbered : {T : Type 0} → Result T Refusal → Result T ℕ
numbered (Ok x) = Ok x
numbered (Err r) = Err (refusal_number r)

-- the tests before the value
unfoldable pub admission_of : Encoder → SignalRecord → (records times work image : ℕ) → (sender signal : ℕ) → Result Admission ℕ
admission_of s r records times work image p g =
    guarded (state_tests s (no_probe p) records times work image) Err
    (guarded (early_tests s) Err
    (pick (skip_of s.skips p).on (Ok admission.Skipped)
    (guarded (signal_tests s r p g) Err (Ok admission.Taken))))

-- the tests after the value's decoding, by the length of the work buffer
unfoldable pub item_start_of : Encoder → SignalRecord → (work : ℕ) → ChangeValue → Result ℕ ℕ
item_start_of s r work v =
    let n = change_length (width_of r.kind) (s.held - 1 - r.index) v in
    guarded (room_tests s r work n) Err (Ok n)

-- the work buffer after them: a record's head stands at its place, where the record has room
abbrev pub item_begun : (work : List ℕ) → (at signal : ℕ) → Result ℕ ℕ → List ℕ
item_begun w at g (Err k) = w
item_begun w at g (Ok n) = sets w at (le 4 g ++ le 4 n)

-- the state after a change that took n bytes of the work buffer
abbrev pub working : Encoder → (n : ℕ) → Encoder
working s n = with_work s (s.work + n)

-- its signal's record, risen to class c if that is above its own
abbrev pub risen : Encoder → SignalRecord → (c : ℕ) → SignalRecord
risen s r c = record_of r.kind (s.held - 1) (states_of (max (class_number r.top) c)) r.probe
