-- Document 01, 'Turned back': the refusals of start, time, change and finish that tests on numbers and one record decide, in the paper's
-- order. 5 and 6 stand in signal/specs/Content.antt (decode), 8 and the cut's 10 in Step.antt (cut_items).
-- Assumes nothing.
use Rattle.std.specs.Prelude.{ℕ, ◌+◌, ◌-◌, Bool, false, ◌&&◌, ◌||◌, not, List, [], ◌∷◌, length, ltb, leb, eqb}
use Rattle.signal.specs.Kind.{known_kind, absent}
use Rattle.image.specs.Head.{head_size, image_limit}
use Rattle.recording.specs.declared.Encoder.{Encoder}
use Rattle.recording.specs.declared.Settings.{Settings}
use Rattle.recording.specs.declared.SignalRecord.{SignalRecord}
use Rattle.recording.specs.Memory.{Memory, Tests}

-- B is 2..65,535
abbrev pub outside : ℕ → Bool
outside limit = ltb limit 2 || ltb 65535 limit

-- document 02, (j): the editions of the skip rule are 1 and 2
abbrev pub no_edition : ℕ → Bool
no_edition e = ltb e 1 || ltb 2 e

-- document 02, (k): the probes are 0 and 1
abbrev pub no_probe : ℕ → Bool
no_probe p = ltb 1 p

-- a record that a start refuses: its kind is unknown, or it names no probe
abbrev pub bad_record : SignalRecord → Bool
bad_record r = not (known_kind r.kind) || no_probe r.probe

unfoldable pub any_bad : List SignalRecord → Bool
any_bad [] = false
any_bad (r ∷ rs) = bad_record r || any_bad rs

-- 1, of a start, by the count of records, whether one of them is bad, and the lengths of the lent memory
unfoldable pub start_tests : Settings → (records : ℕ) → (bad : Bool) → (times image : ℕ) → Tests
start_tests settings records bad times image =
    (outside settings.limit, 1)
    ∷ (no_edition settings.edition, 1)
    ∷ (ltb times settings.limit, 1)
    ∷ (ltb 65536 settings.signals || not (eqb settings.signals records), 1)
    ∷ (bad, 1)
    ∷ (ltb image (head_size settings.signals) || ltb image_limit image, 1)
    ∷ []

-- 2, 18 of a sender that is no probe (`foreign`), and the first group of 10, by the lengths of the lent memory
unfoldable pub state_tests : Encoder → (foreign : Bool) → (records times work image : ℕ) → Tests
state_tests s foreign records times work image =
    (s.closed, 2)
    ∷ (foreign, 18)
    ∷ (outside s.limit, 10)
    ∷ (no_edition s.edition, 10)
    ∷ (ltb s.limit s.held, 10)
    ∷ (ltb times s.limit, 10)
    ∷ (ltb work s.work || ltb image s.image, 10)
    ∷ (ltb image_limit image, 10)
    ∷ (ltb s.image s.blocks, 10)
    ∷ (not (eqb s.signals records), 10)
    ∷ (ltb 0 s.work && eqb s.held 0, 10)
    ∷ []

abbrev pub open_tests : Memory → (foreign : Bool) → Tests
open_tests m foreign = state_tests m.state foreign (length m.records) (length m.times) (length m.work) (length m.image)

-- 3, a change before any time
abbrev pub early_tests : Encoder → Tests
early_tests s = (eqb s.held 0, 3) ∷ []

-- 4, number at or above S, or absent; 18, the signal's record does not name the sender
abbrev pub signal_tests : Encoder → SignalRecord → (sender signal : ℕ) → Tests
signal_tests s r p g = (leb s.signals g || absent r.kind, 4) ∷ (not (eqb r.probe p), 18) ∷ []

-- the second group of 10 (the record's index beyond the last, or its width over 65,536), and 7, for a change of n stream bytes
abbrev pub room_tests : Encoder → SignalRecord → (work n : ℕ) → Tests
room_tests s r work n =
    (ltb (s.held - 1) r.index || not (known_kind r.kind), 10)
    ∷ (ltb work (s.work + (8 + n)), 7)
    ∷ []
