-- What the calls of a recording answer and make of its state, and what a time or a finish comes to.
-- Assumes nothing.
use Rattle.std.specs.Prelude.{ℕ, Some, None, Result, Ok}
use Rattle.refusal.specs.declared.Refusal.{Refusal}
use Rattle.recording.specs.declared.Answer.{Answer}
use Rattle.recording.specs.declared.Answer.TheVariants.{Finished}
use Rattle.recording.specs.declared.Encoder.{Encoder}
use Rattle.recording.specs.Step.{closed_now}
use Rattle.cut.specs.Cut.{data_start}
use Rattle.recording.specs.declared.Outcome.{Outcome}
use Rattle.plan_state.specs.declared.plan.Plan.{Plan}

abbrev pub outcome : Result Answer Refusal → Encoder → Outcome
outcome a s = record { answer = a; state = s }

-- the total, and no call is taken any more
abbrev pub closing : Encoder → Outcome
closing s = outcome (Ok (Finished s.image)) (closed_now s)

-- ---- what follows

-- nothing is cut, no time is taken
abbrev pub still : Outcome → Encoder → Plan
still o s = record { outcome = o; state = s; cut = None; turns = 0; used = 0; start = 0; time = None }

-- a block of so many bytes is cut, in a loop over all records
abbrev pub cutting : Outcome → Encoder → (size records : ℕ) → Plan
cutting o s n r = record { outcome = o; state = s; cut = Some n; turns = r; used = s.image; start = data_start s; time = None }

-- a time is taken too
abbrev pub taking : Plan → ℕ → Plan
taking p t = record { outcome = p.outcome; state = p.state; cut = p.cut; turns = p.turns; used = p.used; start = p.start; time = Some t }
