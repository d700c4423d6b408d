-- The probe that a signal's record names stays: no call of a recording changes it, and a start does not either.
-- Assumes nothing.
use Prim.Native.Nat.{ℕ, ◌-◌, ◌<◌, max}
use mathlib.Core.Path.{◌≡◌, refl, ap, ◌∙◌}
use mathlib.Core.Bool.{Bool, false}
use mathlib.Core.List.{List, map}
use native.Mathlib.Decide.{ℕ_discrete, dec_lt}
use native.Mathlib.Omega.{arith}
use lib.ListN.{length, take, get_or, set, get_or-map}
use lib.Seq.{get_or-set_same, get_or-set_other, set_out}
use lib.Dec.{eqb}
use Rattle.lists.proofs.ChoiceLaws.{pick-either}
use Rattle.value.specs.Class.{class_number, states_of}
use Rattle.stream.specs.Stream.{change_bytes}
use Rattle.signal.specs.Content.{Decoded, refuse, accept, decode}
use Rattle.recording.specs.declared.Settings.{Settings}
use Rattle.recording.specs.declared.SignalRecord.{SignalRecord}
use Rattle.recording.specs.Calls.{Call, time, change, finish, taken, recorded, skipped, say, Way, above, equal, below, way_of}
use Rattle.recording.specs.Memory.{Memory, After, after, record_of, record_at, Tests, guarded, refused}
use Rattle.recording.specs.Refusals.{no_probe, open_tests, early_tests, signal_tests, room_tests}
use Rattle.recording.specs.State.{skip_of}
use Rattle.recording.specs.Step.{with_state, rewound, fresh, Cut, noCut, cuts, cut_of, timed, time_cut, time_by, time_of}
use Rattle.recording.specs.Step.{skipped_one, recorded_in, change_by, change_of, closing, finish_cut, finish_of, start_of, step}
use Rattle.recording.proofs.StartLaws.{begun_in, asked}
use Rattle.recording.proofs.TestsLaws.{guarded-either}
use Rattle.follow.proofs.RecsRep.{no_record}

abbrev probe_at : List SignalRecord → ℕ → ℕ
probe_at rs g = (get_or rs g no_record).probe

rewound-probe : (rs : List SignalRecord) (g : ℕ) → probe_at (map rewound rs) g ≡ probe_at rs g
rewound-probe rs g = ap (λ (r : SignalRecord). r.probe) (get_or-map rewound rs g no_record)

fresh-probe : (rs : List SignalRecord) (g : ℕ) → probe_at (map fresh rs) g ≡ probe_at rs g
fresh-probe rs g = ap (λ (r : SignalRecord). r.probe) (get_or-map fresh rs g no_record)

-- a record is stored in place of one that names the same probe
set-probe : (rs : List SignalRecord) (g : ℕ) (r : SignalRecord) → r.probe ≡ probe_at rs g → (i : ℕ) → probe_at (set rs g r) i ≡ probe_at rs i
set-probe rs g r e i = go (ℕ_discrete i g) (dec_lt g (length rs))
  where
    go : Dec (i ≡ g) → Dec (g < length rs) → probe_at (set rs g r) i ≡ probe_at rs i
    go (yes z) (yes l) = rw z (ap (λ (x : SignalRecord). x.probe) (get_or-set_same rs g r no_record l) ∙ e)
    go (yes z) (no n) = ap (λ (l : List SignalRecord). probe_at l i) (set_out rs g r (omega (arith, n)))
    go (no n) l = ap (λ (x : SignalRecord). x.probe) (get_or-set_other rs g i r no_record n)

-- what a call leaves names for signal g the probe that m names
record Stays (m : Memory) (g : ℕ) (e : After) : Type 0 where
  is : (record_at e.memory g).probe ≡ (record_at m g).probe

module _ (m : Memory) (g : ℕ) where
  same-records : (e : After) → e.memory.records ≡ m.records → Stays m g e
  same-records e q = record { is = ap (λ (rs : List SignalRecord). (get_or rs g no_record).probe) q }

  by_tests : (ts : Tests) (e : After) → Stays m g e → Stays m g (guarded ts (refused m) e)
  by_tests ts e = guarded-either (Stays m g) ts (refused m) e (λ n. same-records (refused m n) refl)

  cut-stays : (p t : ℕ) (c : Cut) → Stays m g (time_cut m p t c)
  cut-stays p t (noCut n) = same-records (refused m n) refl
  cut-stays p t (cuts b) = record { is = rewound-probe m.records g }

  time-stays : (p t : ℕ) (w : Way) → Stays m g (time_by m p t w)
  time-stays p t above =
      pick-either (Stays m g) (eqb m.state.held m.state.limit) (time_cut m p t (cut_of m)) (after (say taken) (timed m p t)) (cut-stays p t (cut_of m)) (same-records _ refl)
  time-stays p t equal = same-records _ refl
  time-stays p t below = same-records _ refl

  change-stays : (i : ℕ) (d : Decoded) → Stays m g (change_by m i d)
  change-stays i (refuse n) = same-records (refused m n) refl
  change-stays i (accept a c) =
      let r : SignalRecord = record_at m i in
      let b : List ℕ = change_bytes r.kind (m.state.held - 1 - r.index) a in
      let new : SignalRecord = record_of r.kind (m.state.held - 1) (states_of (max (class_number r.top) c)) r.probe in
      by_tests (room_tests m.state r (length m.work) (length b)) (after (say recorded) (recorded_in m i b c)) (record { is = set-probe m.records i new refl g })

  finish-stays : (c : Cut) → Stays m g (finish_cut m c)
  finish-stays (noCut n) = same-records (refused m n) refl
  finish-stays (cuts b) = record { is = rewound-probe m.records g }

  stays : (c : Call) → Stays m g (step m c)
  unfolding step time_of change_of finish_of
  stays (time p t) =
      let w : Way = way_of (take m.state.held m.times) t in
      by_tests (open_tests m (no_probe p)) (time_by m p t w) (time-stays p t w)
  stays (change p i v) =
      let d : Decoded = decode (record_at m i).kind v in
      let on : Bool = (skip_of m.state.skips p).on in
      let skips : After = after (say skipped) (with_state m (skipped_one m.state p)) in
      let read = by_tests (signal_tests m.state (record_at m i) p i) (change_by m i d) (change-stays i d) in
      by_tests (open_tests m (no_probe p)) _ (by_tests (early_tests m.state) _ (pick-either (Stays m g) on skips _ (same-records skips refl) read))
  stays finish =
      by_tests (open_tests m false) _
      (pick-either (Stays m g) (eqb m.state.held 0) (closing m) (finish_cut m (cut_of m)) (same-records (closing m) refl) (finish-stays (cut_of m)))

  start-stays : (settings : Settings) → Stays m g (start_of settings m)
  unfolding start_of
  start-stays settings = by_tests (asked settings m) (begun_in settings m) (record { is = fresh-probe m.records g })

pub step-probe : (m : Memory) (c : Call) (g : ℕ) → (record_at (step m c).memory g).probe ≡ (record_at m g).probe
step-probe m c g = (stays m g c).is

pub start-probe : (settings : Settings) (m : Memory) (g : ℕ) → (record_at (start_of settings m).memory g).probe ≡ (record_at m g).probe
start-probe settings m g = (start-stays m g settings).is
