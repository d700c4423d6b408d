-- Laws of the stages of a change, as the code meets them.
-- Assumes nothing.
use Prim.Native.Nat.{ℕ, ◌+◌, ◌-◌, ◌≤◌, ◌<◌}
use mathlib.Core.Path.{◌≡◌, refl, sym, ap, ◌∙◌}
use mathlib.Core.Bool.{Bool}
use mathlib.Core.List.{List, ◌++◌}
use native.Mathlib.Omega.{arith}
use native.Mathlib.Decide.{ℕ_discrete}
use borrow.Author.Tests.{lt-ltb, le-ltb, le-leb, lt-leb, eq-eqb, ne_eqb}
use lib.Seq.{sets}
use lib.Dec.{ltb, leb}
use Rattle.lists.specs.Choice.{pick}
use Rattle.lists.proofs.SetsLaws.{sets-append}
use Rattle.numbers.specs.LittleEndian.{le}
use Rattle.numbers.proofs.Leb128Laws.{length-leb}
use Rattle.numbers.proofs.LittleEndianLaws.{length-le}
use Rattle.value.specs.declared.states.States.TheVariants.{Two, Four, Nine}
use Rattle.signal.specs.declared.kind.SignalEncoding.{SignalEncoding}
use Rattle.signal.specs.declared.kind.SignalEncoding.TheVariants.{BitVector, Real, Absent}
use Rattle.signal.specs.declared.decode.ChangeValue.{ChangeValue}
use Rattle.signal.specs.declared.decode.ChangeValue.TheVariants as signal
use Rattle.signal.specs.Kind.{width_of, known_kind}
use Rattle.stream.specs.Answer.{change_number, tail_length, change_length}
use Rattle.recording.specs.declared.Encoder.{Encoder}
use Rattle.recording.specs.declared.SignalRecord.{SignalRecord}
use Rattle.refusal.specs.declared.Refusal.{Refusal}
use Rattle.refusal.specs.Refusal.{refusal_number, refused_number}
use Rattle.refusal.specs.Named.{refusal_from}
use Rattle.refusal.proofs.NamedLaws.{refusal_back}
use Rattle.recording.specs.Memory.{Tests, first, guarded}
use Rattle.recording.specs.Refusals.{no_probe, state_tests, early_tests, signal_tests}
use Rattle.recording.specs.State.{skip_of}
use Rattle.recording.proofs.TestsLaws.{guarded-none, guarded-first}
use Rattle.refusals.proofs.StateLaws.{state-positive, sound}
use Rattle.admission.specs.declared.Admission.{Admission}
use Rattle.admission.specs.declared.Admission.TheVariants as admission
use Rattle.std.specs.Prelude.{Result, Ok, Err, ⊤}
use Rattle.admission.specs.Stages.{admission_of, item_start_of}

-- ---- a refusal's number

pub number_some : (r : Refusal) → refusal_number r ≡ 0 → ⊥
number_some r e = let q : refusal_number r ≡ 10 = ap refusal_number (sym (refusal_back r) ∙ ap refusal_from e) in omega arith

-- ---- the tests before the value

-- past the tests of the state and of the times
abbrev pub signalled : Encoder → SignalRecord → (sender signal : ℕ) → Result Admission ℕ
signalled s r p g = guarded (signal_tests s r p g) Err (Ok admission.Taken)

abbrev pub heard : Encoder → SignalRecord → (sender signal : ℕ) → Result Admission ℕ
heard s r p g = pick (skip_of s.skips p).on (Ok admission.Skipped) (signalled s r p g)

module _ (s : Encoder) (r : SignalRecord) (p g : ℕ) (e : Result ⊤ Refusal) (h : refused_number e ≡ first (signal_tests s r p g)) where
  pub signalled-refused : (n : Refusal) → e ≡ Err n → Err (refusal_number n) ≡ signalled s r p g
  signalled-refused n f =
      let q : refusal_number n ≡ first (signal_tests s r p g) = rw f at h in
      ap Err q ∙ sym (guarded-first (signal_tests s r p g) Err (Ok admission.Taken) (λ z. number_some n (q ∙ z)))

  pub signalled-taken : {x : ⊤} → e ≡ Ok x → Ok admission.Taken ≡ signalled s r p g
  signalled-taken {x} f = sym (guarded-none (signal_tests s r p g) Err (Ok admission.Taken) tt (sym (rw f at h)))

module _ (s : Encoder) (r : SignalRecord) (records times work image p g : ℕ) where
  abbrev asked : Tests
  asked = state_tests s (no_probe p) records times work image

  pub admitted-state : (first asked ≡ 0 → ⊥) → admission_of s r records times work image p g ≡ Err (first asked)
  unfolding admission_of
  admitted-state n = guarded-first asked Err _ n

  -- the state's first refusal, as the code has it
  module _ (e : Result ⊤ Refusal) (foreign : Bool) (q : foreign ≡ no_probe p) (h : refused_number e ≡ first (state_tests s foreign records times work image)) where
    pub state-refused : (n : Refusal) → e ≡ Err n → Err (refusal_number n) ≡ admission_of s r records times work image p g
    state-refused n f =
        let k : refusal_number n ≡ first asked = rw (f, q) at h in
        ap Err k ∙ sym (admitted-state (λ z. number_some n (k ∙ z)))

    pub state-passed : {x : ⊤} → e ≡ Ok x → first asked ≡ 0
    state-passed {x} f = sym (rw (f, q) at h)

  admitted-past : first asked ≡ 0 → admission_of s r records times work image p g ≡ guarded (early_tests s) Err (heard s r p g)
  unfolding admission_of
  admitted-past z = guarded-none asked Err _ (state-positive s (no_probe p) records times work image) z

  pub admitted-early : first asked ≡ 0 → s.held ≡ 0 → admission_of s r records times work image p g ≡ Err 3
  admitted-early z h = admitted-past z ∙ rw (eq-eqb s.held 0 h) refl

  pub admitted-timed : first asked ≡ 0 → (s.held ≡ 0 → ⊥) → admission_of s r records times work image p g ≡ heard s r p g
  admitted-timed z h = admitted-past z ∙ rw (ne_eqb s.held 0 h) refl

-- what holds where the value is looked at
pub record Ready (s : Encoder) (work : ℕ) : Type 0 where
  pub timed : 0 < s.held
  pub held : s.held ≤ 65535
  pub worked : s.work ≤ work

pub taken-ready : (s : Encoder) (r : SignalRecord) (records times work image p g : ℕ) → admission_of s r records times work image p g ≡ Ok admission.Taken → Ready s work
taken-ready s r records times work image p g e = by (ℕ_discrete (first (state_tests s (no_probe p) records times work image)) 0) (ℕ_discrete s.held 0)
  where
    by : Dec (first (state_tests s (no_probe p) records times work image) ≡ 0) → Dec (s.held ≡ 0) → Ready s work
    by (no n) d = let q = admitted-state s r records times work image p g n in let z : ◌≡◌ {A = ℕ} 0 1 = cc in absurd (omega arith)
    by (yes z) (yes h) = let q = admitted-early s r records times work image p g z h in let z : ◌≡◌ {A = ℕ} 0 1 = cc in absurd (omega arith)
    by (yes z) (no h) =
        let a = sound s (no_probe p) records times work image z in
        record { timed = omega arith; held = omega (arith, a.held, a.high); worked = a.worked }

-- ---- the record

known-width : (k : SignalEncoding) → known_kind k ≡ leb (width_of k) 65536
known-width (BitVector w) = refl
known-width Real = refl
known-width Absent = refl

-- the tests of room, as the code finds the width and the length
module _ (s : Encoder) (r : SignalRecord) (work : ℕ) (v : ChangeValue) where
  pub start-beyond : s.held - 1 < r.index → Err 10 ≡ item_start_of s r work v
  unfolding item_start_of
  start-beyond h = rw (lt-ltb (s.held - 1) r.index h) refl

  pub start-wide : {x : ℕ} → x ≡ width_of r.kind → r.index ≤ s.held - 1 → 65536 < x → Err 10 ≡ item_start_of s r work v
  unfolding item_start_of
  start-wide {x} p h k = rw (le-ltb (s.held - 1) r.index h, known-width r.kind, ← p, lt-leb x 65536 k) refl

  module _ {x n : ℕ} (p : x ≡ width_of r.kind) (q : n ≡ change_length x (s.held - 1 - r.index) v) (h : r.index ≤ s.held - 1) (k : x ≤ 65536) where
    start-known : item_start_of s r work v ≡ pick (ltb work (s.work + (8 + n))) (Err 7) (Ok n)
    unfolding item_start_of
    start-known = rw (le-ltb (s.held - 1) r.index h, known-width r.kind, ← p, le-leb x 65536 k, ← q) refl

    pub start-full : work - s.work < 8 + n → Err 7 ≡ item_start_of s r work v
    start-full f = let g : work < s.work + (8 + n) = omega arith in sym (start-known ∙ rw (lt-ltb work (s.work + (8 + n)) g) refl)

    pub start-done : s.work + (8 + n) ≤ work → Ok n ≡ item_start_of s r work v
    start-done f = sym (start-known ∙ rw (le-ltb work (s.work + (8 + n)) f) refl)

-- the two numbers of a record's head, written one after the other
pub head-written : (w w₁ w₂ : List ℕ) (at g n next : ℕ) → next ≡ at + 4 → w₁ ≡ sets w at (le 4 g) → w₂ ≡ sets w₁ next (le 4 n)
    → w₂ ≡ sets w at (le 4 g ++ le 4 n)
head-written w w₁ w₂ at g n next p h i = i ∙ rw (h, p, sets-append (le 4 g) (le 4 n) w at, length-le 4 g) refl

-- a change of a known kind is short
tail-short : (w : ℕ) (v : ChangeValue) → w ≤ 65536 → tail_length w v ≤ 32768
tail-short w signal.Event h = omega arith
tail-short w (signal.SingleBit b) h = omega arith
tail-short w (signal.MultiBit Two) h = omega arith
tail-short w (signal.MultiBit Four) h = omega arith
tail-short w (signal.MultiBit Nine) h = omega arith
tail-short w (signal.Real b) h = omega arith

pub change-short : (w d : ℕ) (v : ChangeValue) → w ≤ 65536 → change_length w d v ≤ 32773
change-short w d v h = omega (arith, length-leb (change_number d v), tail-short w v h)
