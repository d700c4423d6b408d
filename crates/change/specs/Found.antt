-- What a change does to the state, to its signal's record and to the work buffer: `change_of` (crate recording) as far as it concerns
-- them (proofs/ChangeLaws).
-- Assumes nothing.
use Rattle.std.specs.Prelude.{ℕ, ◌+◌, ◌-◌, List, length, set, Result, Ok, Err}
use Rattle.std.proofs.lemmas.List.Edits.{sets}
use Rattle.lists.specs.Choice.{pick}
use Rattle.signal.specs.Content.{Given, Decoded, refuse, accept, decode}
use Rattle.stream.specs.Stream.{change_bytes}
use Rattle.recording.specs.declared.Encoder.{Encoder}
use Rattle.recording.specs.declared.SignalRecord.{SignalRecord}
use Rattle.recording.specs.Calls as calls
use Rattle.recording.specs.Calls.{Reply, reply_of, say, recorded, skipped}
use Rattle.recording.specs.Work.{item, item_bytes}
use Rattle.recording.specs.Memory.{Memory, memory, After, after, guarded}
use Rattle.recording.specs.Refusals.{no_probe, state_tests, early_tests, signal_tests, room_tests}
use Rattle.recording.specs.State.{skip_of}
use Rattle.recording.specs.Step.{skipped_one}
use Rattle.refusal.specs.declared.Refusal.{Refusal}
use Rattle.refusal.specs.Refusal.{refusal_number}
use Rattle.admission.specs.declared.changed.Changed.{Changed}
use Rattle.admission.specs.Stages.{working, risen}

pub record Found : Type 0 where
  pub reply : Reply
  pub state : Encoder
  pub kept : SignalRecord
  pub work : List ℕ

abbrev pub found : Reply → Encoder → SignalRecord → List ℕ → Found
found a s r w = record { reply = a; state = s; kept = r; work = w }

abbrev pub found_refused : Encoder → SignalRecord → List ℕ → ℕ → Found
found_refused s r w n = found (calls.refuse n) s r w

-- what the code has found: a change, or why it is refused, with the work buffer after it
abbrev pub found_after : Encoder → SignalRecord → Result Changed Refusal → List ℕ → Found
found_after s r (Ok c) w = found (reply_of c.answer) c.state c.kept w
found_after s r (Err n) w = found_refused s r w (refusal_number n)

abbrev pub found_done : Encoder → SignalRecord → List ℕ → (signal : ℕ) → (stream : List ℕ) → (c : ℕ) → Found
found_done s r w g b c = found (say recorded) (working s (8 + length b)) (risen s r c) (sets w s.work (item_bytes (item g b)))

unfoldable pub found_by : Encoder → SignalRecord → List ℕ → (signal : ℕ) → Decoded → Found
found_by s r w g (refuse n) = found_refused s r w n
found_by s r w g (accept a c) =
    let b = change_bytes r.kind (s.held - 1 - r.index) a in
    guarded (room_tests s r (length w) (length b)) (found_refused s r w) (found_done s r w g b c)

unfoldable pub found_of : Encoder → SignalRecord → (records times image : ℕ) → (work : List ℕ) → (sender signal : ℕ) → Given → Found
found_of s r records times image w p g v =
    guarded (state_tests s (no_probe p) records times (length w) image) (found_refused s r w)
    (guarded (early_tests s) (found_refused s r w)
    (pick (skip_of s.skips p).on (found (say skipped) (skipped_one s p) r w)
    (guarded (signal_tests s r p g) (found_refused s r w)
    (found_by s r w g (decode r.kind v)))))

-- the memory after a change: of the records only the signal's differs
abbrev pub after_change : Memory → (signal : ℕ) → Found → After
after_change m g f = after f.reply (memory f.state (set m.records g f.kept) m.times f.work m.image)
