-- The plan of a time, case by case, as the code meets the cases.
-- Assumes nothing.
use Prim.Native.Nat.{ℕ, ◌≤◌, ◌<◌}
use mathlib.Core.Path.{◌≡◌, refl}
use mathlib.Core.List.{List}
use native.Mathlib.Omega.{arith}
use borrow.Author.Tests.{eq-eqb, ne_eqb}
use lib.ListN.{length, take}
use Rattle.std.specs.declared.result.Result.TheVariants.{Ok}
use Rattle.recording.specs.declared.Answer.TheVariants.{Taken}
use Rattle.recording.specs.declared.Encoder.{Encoder}
use Rattle.recording.specs.Calls.{above, way_of}
use Rattle.recording.specs.Memory.{Tests, first}
use Rattle.recording.specs.Refusals.{no_probe, state_tests}
use Rattle.recording.specs.Step.{timed_state}
use Rattle.recording.proofs.TestsLaws.{guarded-none, guarded-first}
use Rattle.refusals.proofs.StateLaws.{state-positive}
use Rattle.cut.specs.Cut.{sized}
use Rattle.plan_state.specs.Outcomes.{outcome, still, taking}
use Rattle.plan.specs.Plan.{plan_refused, time_sized, plan_by, plan_time}

-- ---- the tests of the state

module _ (s : Encoder) (n : ℕ) (ts w : List ℕ) (i p x : ℕ) where
  abbrev tests : Tests
  tests = state_tests s (no_probe p) n (length ts) (length w) i

  pub time-refused : (first tests ≡ 0 → ⊥) → plan_time s n ts w i p x ≡ plan_refused s (first tests)
  unfolding plan_time
  time-refused z = guarded-first tests (plan_refused s) (plan_by s n w i p x (way_of (take s.held ts) x)) z

  pub time-passed : first tests ≡ 0 → plan_time s n ts w i p x ≡ plan_by s n w i p x (way_of (take s.held ts) x)
  unfolding plan_time
  time-passed z = guarded-none tests (plan_refused s) (plan_by s n w i p x (way_of (take s.held ts) x)) (state-positive s (no_probe p) n (length ts) (length w) i) z

-- ---- a time that is above

module _ (s : Encoder) (n : ℕ) (w : List ℕ) (i p x : ℕ) where
  pub above-taken : s.held < s.limit → plan_by s n w i p x above ≡ taking (still (outcome (Ok Taken) (timed_state s p)) s) x
  above-taken h =
      let different : s.held ≡ s.limit → ⊥ = λ q. omega arith in
      rw (ne_eqb s.held s.limit different) refl

  pub above-cut : s.held ≤ s.limit → s.limit ≤ s.held → plan_by s n w i p x above ≡ time_sized s n p x (sized s w i)
  above-cut h k = let same : s.held ≡ s.limit = omega arith in rw (eq-eqb s.held s.limit same) refl
