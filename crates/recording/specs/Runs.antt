-- Recordings as lists of calls, on lent memory that holds nonsense.
-- Assumes nothing.
use Rattle.std.specs.Prelude.{ℕ, true, List, [], ◌∷◌, map, length, take, replicate}
use Rattle.value.specs.declared.states.States.TheVariants.{Nine}
use Rattle.signal.specs.declared.kind.SignalEncoding.{SignalEncoding}
use Rattle.signal.specs.Content.{vcd}
use Rattle.recording.specs.declared.Encoder.{Encoder}
use Rattle.recording.specs.declared.SignalRecord.{SignalRecord}
use Rattle.recording.specs.Calls.{Call, time, change}
use Rattle.recording.specs.Memory.{Memory, memory, record_of}
use Rattle.recording.specs.State.{probe_skip, both_skips, settings_of}
use Rattle.recording.specs.Step.{start_of, run, Ran}

-- a state and a record as they may be before a start
abbrev pub stale_state : Encoder
stale_state = record { closed = true; limit = 9; signals = 9; held = 9; work = 9; image = 9; blocks = 9; edition = 9; skips = both_skips (probe_skip true 9) (probe_skip true 9) }

abbrev pub stale_of : (probe : ℕ) → SignalEncoding → SignalRecord
stale_of p k = record_of k 7 Nine p

unfoldable pub lent_with : List SignalRecord → (times work image : ℕ) → Memory
lent_with rs t w i = memory stale_state rs (replicate t 99) (replicate w 99) (replicate i 99)

-- every record names probe 0
unfoldable pub lent : List SignalEncoding → (times work image : ℕ) → Memory
lent ks = lent_with (map (stale_of 0) ks)

-- a start in an edition of the skip rule and calls, with room for B times, 64 work bytes and 128 image bytes
unfoldable pub ran_with : (edition limit : ℕ) → List SignalRecord → List Call → Ran
ran_with e limit rs cs = run (start_of (settings_of limit (length rs) e) (lent_with rs limit 64 128)).memory cs

unfoldable pub ran_in : (edition limit : ℕ) → List SignalEncoding → List Call → Ran
ran_in e limit ks = ran_with e limit (map (stale_of 0) ks)

-- in edition 1
unfoldable pub ran : (limit : ℕ) → List SignalEncoding → List Call → Ran
ran = ran_in 1

-- the image left: its used bytes
unfoldable pub image_left : (limit : ℕ) → List SignalEncoding → List Call → List ℕ
image_left limit ks cs = let r = ran limit ks cs in take r.last.state.image r.last.image

-- times 10, 5, 10: the skip stands in edition 1; 11 ends it. A change after each: 1, 0, 0, 1
abbrev pub skips : List Call
skips = time 0 10 ∷ change 0 0 (vcd (49 ∷ [])) ∷ time 0 5 ∷ change 0 0 (vcd (48 ∷ [])) ∷ time 0 10 ∷ change 0 0 (vcd (48 ∷ [])) ∷ time 0 11 ∷ change 0 0 (vcd (49 ∷ [])) ∷ []

-- times 10, 5, 10, 10, 9, 9, and a change after all but the first and the fifth
abbrev pub sames : List Call
sames =
    time 0 10 ∷ time 0 5 ∷ change 0 0 (vcd (49 ∷ [])) ∷ time 0 10 ∷ change 0 0 (vcd (48 ∷ [])) ∷ time 0 10 ∷ change 0 0 (vcd (49 ∷ []))
    ∷ time 0 9 ∷ time 0 9 ∷ change 0 0 (vcd (48 ∷ [])) ∷ []

-- document 02, (k): times and changes of both probes. A sender above 1; times 5 of both; probe 1 goes back, and skips until its own time 7
abbrev pub two_probes : List Call
two_probes =
    time 2 5 ∷ time 0 5 ∷ time 1 5 ∷ time 1 4 ∷ change 1 9 (vcd (113 ∷ [])) ∷ change 1 0 (vcd (49 ∷ [])) ∷ time 0 6 ∷ change 1 1 (vcd (49 ∷ [])) ∷ change 0 2 (vcd (49 ∷ []))
    ∷ change 1 2 (vcd (49 ∷ [])) ∷ time 1 6 ∷ time 1 7 ∷ change 0 2 (vcd (49 ∷ [])) ∷ change 1 2 (vcd (49 ∷ [])) ∷ change 1 0 (vcd (49 ∷ [])) ∷ change 1 1 (vcd (49 ∷ [])) ∷ []

-- probe 1 goes back; then equal times of probe 0 and of probe 1, each with a change of probe 1 after it, and a change of probe 0 at last
abbrev pub returns : List Call
returns =
    time 0 5 ∷ time 1 4 ∷ time 0 5 ∷ change 1 1 (vcd (49 ∷ [])) ∷ time 0 6 ∷ change 1 1 (vcd (49 ∷ [])) ∷ time 1 6 ∷ change 1 1 (vcd (49 ∷ [])) ∷ change 0 0 (vcd (49 ∷ [])) ∷ []
