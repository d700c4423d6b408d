-- A change call: what is stored of the signal's record can be stored, and all parts together are `change_of`.
-- Assumes nothing.
use Rattle.std.proofs.Common.{◌≡◌, refl, sym, ap, subst, ◌∙◌, ℕ, ◌-◌, ◌≤◌, max, arith, List, map, length, get_or, set}
use Rattle.std.proofs.lemmas.List.{length-map}
use native.Mathlib.Decide.{ℕ_discrete}
use Rattle.lists.specs.Choice.{pick}
use Rattle.value.specs.Class.{class_number, states_of}
use Rattle.value.specs.declared.states.States.TheVariants.{Two}
use Rattle.signal.specs.declared.kind.SignalEncoding.TheVariants.{Absent}
use Rattle.signal.specs.Content.{Given, Decoded, refuse, accept, decode}
use Rattle.stream.specs.Stream.{change_bytes}
use Rattle.recording.specs.declared.Encoder.{Encoder}
use Rattle.recording.specs.declared.Lengths.{Lengths}
use Rattle.recording.specs.declared.SignalRecord.{SignalRecord}
use Rattle.recording.specs.Calls.{reply_of, say, skipped}
use Rattle.recording.specs.Memory.{Tests, first, guarded, memory, after, record_of}
use Rattle.recording.specs.Refusals.{no_probe, state_tests, early_tests, signal_tests, room_tests}
use Rattle.recording.specs.State.{skip_of}
use Rattle.recording.specs.Step.{change_of, skipped_one}
use Rattle.recording.proofs.TestsLaws.{guarded-first, guarded-none, guarded-either}
use Rattle.lists.proofs.ChoiceLaws.{pick-either}
use Rattle.refusals.proofs.StateLaws.{sound, state-positive}
use Rattle.storage.specs.Stored.{FitLaws}
use Rattle.admission.specs.declared.changed.Changed.{Changed}
use Rattle.change.specs.Found.{Found, found, found_refused, found_done, found_by, found_of}
use Rattle.change.proofs.ChangeLaws.{change-found}

module _ {Fits : SignalRecord → Type 0} (laws : FitLaws Fits) (s : Encoder) (r : SignalRecord) (w : List ℕ) (g : ℕ) (fits : Fits r) where
  abbrev KeepsFits : Found → Type 0
  KeepsFits f = Fits f.kept

  -- a record's index is below 65,536, so the risen record can be stored
  by_fits : s.held ≤ 65535 → (d : Decoded) → KeepsFits (found_by s r w g d)
  unfolding found_by
  by_fits h (refuse n) = fits
  by_fits h (accept a c) =
      let b = change_bytes r.kind (s.held - 1 - r.index) a in
      guarded-either KeepsFits (room_tests s r (length w) (length b)) (found_refused s r w) (found_done s r w g b c) (λ n. fits)
      (laws.changed r (s.held - 1) (states_of (max (class_number r.top) c)) fits (omega arith))

  module _ (records times image p : ℕ) (v : Given) where
    abbrev asked : Tests
    asked = state_tests s (no_probe p) records times (length w) image

    abbrev taken : Found
    taken = guarded (signal_tests s r p g) (found_refused s r w) (found_by s r w g (decode r.kind v))

    abbrev counted : Found
    counted = found (say skipped) (skipped_one s p) r w

    abbrev later : Found
    later = guarded (early_tests s) (found_refused s r w) (pick (skip_of s.skips p).on counted taken)

    later-fits : s.held ≤ 65535 → KeepsFits later
    later-fits h =
        guarded-either KeepsFits (early_tests s) (found_refused s r w) _ (λ n. fits)
        (pick-either KeepsFits (skip_of s.skips p).on counted taken fits
        (guarded-either KeepsFits (signal_tests s r p g) (found_refused s r w) _ (λ n. fits) (by_fits h (decode r.kind v))))

    kept-fits : KeepsFits (found_of s r records times image w p g v)
    unfolding found_of
    kept-fits = by (ℕ_discrete (first asked) 0)
      where
        by : Dec (first asked ≡ 0) → KeepsFits (guarded asked (found_refused s r w) later)
        by (no z) = subst KeepsFits (sym (guarded-first asked (found_refused s r w) later z)) fits
        by (yes z) =
            let a = sound s (no_probe p) records times (length w) image z in
            subst KeepsFits (sym (guarded-none asked (found_refused s r w) later (state-positive s (no_probe p) records times (length w) image) z))
            (later-fits (omega (arith, a.held, a.high)))

-- what the code's change leaves
module _ (s : Encoder) (k : SignalRecord) (l : Lengths) (w w' : List ℕ) (p g : ℕ) (v : Given) (c : Changed)
    (made : found (reply_of c.answer) c.state c.kept w' ≡ found_of s k l.records l.times l.image w p g v) where
  pub change-fits : {Fits : SignalRecord → Type 0} → FitLaws Fits → Fits k → Fits c.kept
  change-fits {Fits} laws h = subst Fits (sym (ap (λ (f : Found). f.kept) made)) (kept-fits laws s k w g h l.records l.times l.image p v)

  -- xs is what is stored, ys what is stored after it
  pub change-made : {T : Type 0} (stands_for : T → SignalRecord) (xs ys : List T) (t i : List ℕ)
      → l.records ≡ length xs → l.times ≡ length t → l.image ≡ length i
      → k ≡ get_or (map stands_for xs) g (record_of Absent 0 Two 0)
      → map stands_for ys ≡ set (map stands_for xs) g c.kept
      → after (reply_of c.answer) (memory c.state (map stands_for ys) t w' i) ≡ change_of (memory s (map stands_for xs) t w i) p g v
  change-made stands_for xs ys t i a b d e q =
      let rs = map stands_for xs in
      rw q (sym (change-found (memory s rs t w i) g p v ∙ rw (length-map xs stands_for, ← e, ← a, ← b, ← d, ← made) refl))
