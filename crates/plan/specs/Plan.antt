-- What a time and a finish come to, decided from the state, the count of records and the lent memory, before anything is written.
-- Assumes nothing.
use Rattle.std.specs.Prelude.{ℕ, false, List, length, take, eqb, Result, Ok, Err}
use Rattle.lists.specs.Choice.{pick}
use Rattle.refusal.specs.declared.Refusal.{Refusal}
use Rattle.refusal.specs.Named.{refusal_from}
use Rattle.recording.specs.declared.Answer.TheVariants.{Taken, Same, Back}
use Rattle.recording.specs.declared.Encoder.{Encoder}
use Rattle.recording.specs.Calls.{Way, above, equal, below, way_of}
use Rattle.recording.specs.Memory.{guarded}
use Rattle.recording.specs.Refusals.{no_probe, state_tests}
use Rattle.recording.specs.Step.{same_time, skipping, with_cut, timed_state}
use Rattle.cut.specs.Cut.{sized}
use Rattle.plan_state.specs.declared.plan.Plan.{Plan}
use Rattle.plan_state.specs.Outcomes.{outcome, closing, still, cutting, taking}

-- what is decided; where it is refused, nothing changes
abbrev pub or_refused : Encoder → Result Plan Refusal → Plan
or_refused s (Ok p) = p
or_refused s (Err r) = still (outcome (Err r) s) s

-- by a refusal's number
abbrev pub plan_refused : Encoder → ℕ → Plan
plan_refused s n = or_refused s (Err (refusal_from n))

-- what follows a cut by the size of its block, or the refusal that the size meets
abbrev pub by_size : Encoder → Result ℕ Refusal → (ℕ → Plan) → Plan
by_size s (Ok n) cut = cut n
by_size s (Err r) cut = or_refused s (Err r)

-- ---- time

abbrev pub time_with_cut : Encoder → (records sender time size : ℕ) → Plan
time_with_cut s n p t size = taking (cutting (outcome (Ok Taken) (timed_state (with_cut s size) p)) s size n) t

abbrev pub time_sized : Encoder → (records sender time : ℕ) → Result ℕ Refusal → Plan
time_sized s n p t c = by_size s c (time_with_cut s n p t)

-- a larger time is taken, after a cut if the table already holds B times; an equal one adds no time, and ends the skip of its sender in
-- edition 2; a smaller one starts it
abbrev pub plan_by : Encoder → (records : ℕ) → (work : List ℕ) → (image sender time : ℕ) → Way → Plan
plan_by s n w i p t above = pick (eqb s.held s.limit) (time_sized s n p t (sized s w i)) (taking (still (outcome (Ok Taken) (timed_state s p)) s) t)
plan_by s n w i p t equal = still (outcome (Ok Same) (same_time s p)) s
plan_by s n w i p t below = still (outcome (Ok Back) (skipping s p)) s

-- `image` is how many bytes the image has
unfoldable pub plan_time : Encoder → (records : ℕ) → (times work : List ℕ) → (image sender time : ℕ) → Plan
plan_time s n ts w i p t =
    guarded (state_tests s (no_probe p) n (length ts) (length w) i) (plan_refused s) (plan_by s n w i p t (way_of (take s.held ts) t))

-- ---- finish

abbrev pub finish_with_cut : Encoder → (records size : ℕ) → Plan
finish_with_cut s n size = cutting (closing (with_cut s size)) s size n

abbrev pub finish_sized : Encoder → (records : ℕ) → Result ℕ Refusal → Plan
finish_sized s n c = by_size s c (finish_with_cut s n)

-- cuts if any time is held, and closes
unfoldable pub plan_finish : Encoder → (records times : ℕ) → (work : List ℕ) → (image : ℕ) → Plan
plan_finish s n ts w i =
    guarded (state_tests s false n ts (length w) i) (plan_refused s) (pick (eqb s.held 0) (still (closing s) s) (finish_sized s n (sized s w i)))
