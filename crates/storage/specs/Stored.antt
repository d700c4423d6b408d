-- Which records can be stored, whatever they are stored as: what a recording makes of a record that can be stored can be stored too, and so can
-- the record that stands past the last.
-- Assumes nothing.
use Rattle.std.specs.Prelude.{ℕ, ◌≤◌, ⊤, refl}
use Rattle.std.proofs.Common.{arith}
use Rattle.value.specs.declared.states.States.{States}
use Rattle.value.specs.declared.states.States.TheVariants.{Two}
use Rattle.value.proofs.ClassLaws.{number_small}
use Rattle.signal.specs.declared.kind.SignalEncoding.TheVariants.{Absent}
use Rattle.recording.specs.declared.SignalRecord.{SignalRecord}
use Rattle.recording.specs.Memory.{record_of}
use Rattle.storage.specs.Storage.{Storable}

pub record FitLaws (Fits : SignalRecord → Type 0) : Type 0 where
  pub absent : Fits (record_of Absent 0 Two 0)
  -- another index and class; an index of a recording is below 65,535
  pub changed : (r : SignalRecord) (index : ℕ) (top : States) → Fits r → index ≤ 65535 → Fits (record_of r.kind index top r.probe)

-- a record that is stored as it is: each can be
abbrev pub Any : SignalRecord → Type 0
Any r = ⊤

pub any_laws : FitLaws Any
any_laws = record { absent = tt; changed = λ r i t f h. tt }

pub storable_laws : FitLaws Storable
storable_laws =
    record {
      absent = (refl, omega arith, omega arith, omega arith);
      changed = λ r i t f h. (f.0, f.1, omega (arith, number_small t), f.3);
    }
