-- Records and their numbers are inverse, one by one and in a list.
-- Assumes nothing.
use Prim.Native.Nat.{ℕ, suc, ◌+◌, ◌*◌, ◌/◌, ◌%◌, ◌^◌, ◌<◌}
use mathlib.Core.Path.{◌≡◌, refl, sym, ap, ap₂, ◌∙◌}
use mathlib.Core.List.{List, [], ◌∷◌, map}
use native.Mathlib.Omega.{arith}
use lib.ListN.{length}
use Rattle.value.specs.Class.{class_number, states_of}
use Rattle.value.proofs.ClassLaws.{number-states, states-number, number_small}
use Rattle.value.specs.declared.states.States.{States}
use Rattle.value.specs.declared.states.States.TheVariants.{Two}
use Rattle.image.specs.Head.{kind_number, kind_from}
use Rattle.image.proofs.KindLaws.{kind-number}
use Rattle.recording.specs.declared.SignalRecord.{SignalRecord}
use Rattle.recording.specs.Memory.{record_of}
use Rattle.storage.specs.Storage.{record_from, number_from, records_of, Storable}

-- ---- one record

-- the class of a number
class-number : (n : ℕ) → class_number (states_of (n % 3)) ≡ n % 3
class-number n = number-states (n % 3) (omega arith)

pub record-number : (r : SignalRecord) → Storable r → record_from (number_from r) ≡ r
unfolding record_from number_from
record-number r s =
    let k : ℕ = kind_number r.kind in
    let c : ℕ = 3 * r.index + class_number r.top in
    let h : ℕ = r.probe + 256 * c in
    let low : (k + 4294967296 * h) % 4294967296 ≡ k = omega (arith, s.1) in
    let high : (k + 4294967296 * h) / 4294967296 ≡ h = omega (arith, s.1) in
    let probe : h % 256 ≡ r.probe = omega (arith, s.1) in
    let counted : h / 256 ≡ c = omega (arith, s.1) in
    let index : c / 3 ≡ r.index = omega (arith, number_small r.top) in
    let class : c % 3 ≡ class_number r.top = omega (arith, number_small r.top) in
    rw (low, high, probe, counted, index, class, s.0, states-number r.top) refl

pub number-record : (n : ℕ) → number_from (record_from n) ≡ n
unfolding record_from number_from
number-record n = rw (kind-number (n % 4294967296), class-number (n / 4294967296 / 256)) (omega arith)

-- a kind's number alone is a fresh record of probe 0
pub kind-alone : (n : ℕ) → n < 4294967296 → record_from n ≡ record_of (kind_from n) 0 Two 0
unfolding record_from
kind-alone n h =
    let low : n % 4294967296 ≡ n = omega arith in
    let high : n / 4294967296 ≡ 0 = omega arith in
    rw (low, high) refl

pub stored : (n : ℕ) → n < 2 ^ 64 → Storable (record_from n)
unfolding record_from
stored n h =
    let e = kind-number (n % 4294967296) in
    (ap kind_from e, rw e (omega arith), rw (class-number (n / 4294967296 / 256)) (omega arith), omega arith)

-- a storable record with another index and class
pub storable-with : (r : SignalRecord) (i : ℕ) (t : States) → Storable r → 3 * i + 2 < 16777216
    → Storable (record_of r.kind i t r.probe)
storable-with r i t s h = (s.0, s.1, omega (arith, number_small t), s.3)

-- ---- a list of numbers

numbers-records : (l : List ℕ) → map number_from (records_of l) ≡ l
numbers-records [] = refl
numbers-records (n ∷ l) = ap₂ ◌∷◌ (number-record n) (numbers-records l)

-- no two lists of numbers are the same records
pub records-same : (a b : List ℕ) → records_of a ≡ records_of b → a ≡ b
records-same a b e = sym (numbers-records a) ∙ ap (map number_from) e ∙ numbers-records b

pub records-length : (l : List ℕ) → length (records_of l) ≡ length l
records-length [] = refl
records-length (n ∷ l) = ap suc (records-length l)
