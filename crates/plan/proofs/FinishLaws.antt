-- The plan of a finish, case by case, as the code meets the cases.
-- Assumes nothing.
use Prim.Native.Nat.{ℕ}
use mathlib.Core.Path.{◌≡◌, refl, ◌∙◌}
use mathlib.Core.Bool.{false}
use mathlib.Core.List.{List}
use borrow.Author.Tests.{eq-eqb, ne_eqb}
use lib.ListN.{length}
use lib.Dec.{eqb}
use Rattle.lists.specs.Choice.{pick}
use Rattle.recording.specs.declared.Encoder.{Encoder}
use Rattle.recording.specs.Memory.{Tests, first}
use Rattle.recording.specs.Refusals.{state_tests}
use Rattle.recording.proofs.TestsLaws.{guarded-none, guarded-first}
use Rattle.refusals.proofs.StateLaws.{state-positive}
use Rattle.cut.specs.Cut.{sized}
use Rattle.plan_state.specs.declared.plan.Plan.{Plan}
use Rattle.plan_state.specs.Outcomes.{still, closing}
use Rattle.plan.specs.Plan.{plan_refused, finish_sized, plan_finish}

module _ (s : Encoder) (n t : ℕ) (w : List ℕ) (i : ℕ) where
  abbrev tests : Tests
  tests = state_tests s false n t (length w) i

  abbrev going : Plan
  going = pick (eqb s.held 0) (still (closing s) s) (finish_sized s n (sized s w i))

  pub finish-refused : (first tests ≡ 0 → ⊥) → plan_finish s n t w i ≡ plan_refused s (first tests)
  unfolding plan_finish
  finish-refused z = guarded-first tests (plan_refused s) going z

  past : first tests ≡ 0 → plan_finish s n t w i ≡ going
  unfolding plan_finish
  past z = guarded-none tests (plan_refused s) going (state-positive s false n t (length w) i) z

  pub finish-empty : first tests ≡ 0 → s.held ≡ 0 → plan_finish s n t w i ≡ still (closing s) s
  finish-empty z e = past z ∙ rw (eq-eqb s.held 0 e) refl

  pub finish-held : first tests ≡ 0 → (s.held ≡ 0 → ⊥) → plan_finish s n t w i ≡ finish_sized s n (sized s w i)
  finish-held z e = past z ∙ rw (ne_eqb s.held 0 e) refl
