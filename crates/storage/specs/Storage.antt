-- How a signal's record is stored as a number of 64 bits: its kind's number, above that its probe, and above that three times its index plus its
-- class. So a kind's number alone is a fresh record of probe 0. Every number of 64 bits is a record, and no two are the same one, also those of
-- a probe that no record of a recording can name (proofs/StorageLaws).
-- Assumes nothing.
use Rattle.std.specs.Prelude.{ℕ, ◌+◌, ◌*◌, ◌/◌, ◌%◌, ◌<◌, ◌≡◌, List, map}
use Rattle.value.specs.Class.{class_number, states_of}
use Rattle.image.specs.Head.{kind_number, kind_from}
use Rattle.recording.specs.declared.SignalRecord.{SignalRecord}
use Rattle.recording.specs.Memory.{record_of}

unfoldable pub record_from : ℕ → SignalRecord
record_from n =
    let high : ℕ = n / 4294967296 in
    record_of (kind_from (n % 4294967296)) (high / 256 / 3) (states_of (high / 256 % 3)) (high % 256)

unfoldable pub number_from : SignalRecord → ℕ
number_from r = kind_number r.kind + 4294967296 * (r.probe + 256 * (3 * r.index + class_number r.top))

-- the records of a lent run of numbers
abbrev pub records_of : List ℕ → List SignalRecord
records_of = map record_from

-- a record that can be stored: its kind is one that a number of 32 bits stands for, its probe fits 8 of the others, and its index and class the
-- 24 that are left
abbrev pub Storable : SignalRecord → Type 0
Storable r =
    (kind_from (kind_number r.kind) ≡ r.kind) × (kind_number r.kind < 4294967296) × (3 * r.index + class_number r.top < 16777216)
    × (r.probe < 256)
