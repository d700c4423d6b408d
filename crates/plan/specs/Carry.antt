-- A plan carried out: the block opened in the image, the loop over the records, the block closed and the time stored.
-- proofs/CarryLaws: of a time and of a finish this is `time_of` and `finish_of`.
-- Assumes nothing.
use Rattle.std.specs.Prelude.{ℕ, ◌-◌, ◌<◌, ◌≡◌, Option, Some, None, List, length, set}
use Rattle.recording.specs.declared.SignalRecord.{SignalRecord}
use Rattle.recording.specs.Calls.{reply_of}
use Rattle.recording.specs.Memory.{Memory, memory, After, after}
use Rattle.recording.specs.Step.{rewound}
use Rattle.cut.specs.Cut.{cut_opened, cut_closed, next_times, CutCloses}
use Rattle.cut.specs.Turns.{first_by, cut_turns, TurnsFit}
use Rattle.plan_state.specs.declared.plan.Plan.{Plan}

-- what f makes of a value, where there is one, else the other
abbrev pub if_some : {A B : Type 0} → Option A → (A → B) → B → B
if_some None f b = b
if_some (Some x) f b = f x

-- the image before the loop
abbrev pub opened_by : Plan → (times work image : List ℕ) → List ℕ
opened_by p t w i = if_some p.cut (λ n. cut_opened p.state n t w i) i

-- the image after the loop
abbrev pub turned_by : Plan → List SignalRecord → (image : List ℕ) → List ℕ
turned_by p rs i = (cut_turns p.used p.start p.turns rs i).image

abbrev pub closed_by : Plan → (work image : List ℕ) → List ℕ
closed_by p w i = if_some p.cut (λ n. cut_closed p.state n w i) i

-- the times after the cut; then the time that is taken
abbrev pub cut_times : Plan → (times : List ℕ) → List ℕ
cut_times p t = if_some p.cut (λ n. next_times p.state t) t

abbrev pub times_by : Plan → (times : List ℕ) → List ℕ
times_by p t = if_some p.time (set (cut_times p t) (p.outcome.state.held - 1)) (cut_times p t)

abbrev pub carried : Plan → Memory → After
carried p m =
    after (reply_of p.outcome.answer)
    (memory p.outcome.state (first_by rewound p.turns m.records) (times_by p m.times) m.work
    (closed_by p m.work (turned_by p m.records (opened_by p m.times m.work m.image))))

-- what the last step asks of the memory after the loop
pub record Completes (p : Plan) (times work image : List ℕ) : Type 0 where
  pub closes : (n : ℕ) → p.cut ≡ Some n → CutCloses p.state n times work image
  pub counted : (x : ℕ) → p.time ≡ Some x → 0 < p.outcome.state.held
  pub table : (x : ℕ) → p.time ≡ Some x → p.outcome.state.held - 1 < length times

-- what the loop and the last step ask
pub record Carries (p : Plan) (rs : List SignalRecord) (times work image : List ℕ) : Type 0 where
  pub loop : TurnsFit p.used p.start p.turns rs (opened_by p times work image)
  pub end : Completes p times work (turned_by p rs (opened_by p times work image))
