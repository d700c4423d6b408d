-- A start, but for the loops over the records: whether it is taken, and the head's numbers.
-- proofs/BeginLaws: with the loops this is `start_of`.
-- Assumes nothing.
use Rattle.std.specs.Prelude.{ℕ, Bool, List, length, Ok, Err}
use Rattle.refusal.specs.Named.{refusal_from}
use Rattle.recording.specs.declared.Answer.TheVariants.{Started}
use Rattle.recording.specs.declared.Encoder.{Encoder}
use Rattle.recording.specs.declared.Settings.{Settings}
use Rattle.recording.specs.Calls.{reply_of}
use Rattle.recording.specs.Memory.{Memory, memory, After, after, guarded}
use Rattle.recording.specs.Refusals.{start_tests, any_bad}
use Rattle.recording.specs.Step.{fresh}
use Rattle.head.specs.Kinds.{head_numbers, kinds_put}
use Rattle.cut.specs.Turns.{first_by}
use Rattle.recording.specs.declared.Outcome.{Outcome}
use Rattle.recording.specs.State.{start_state}
use Rattle.plan_state.specs.Outcomes.{outcome}
use Rattle.plan.specs.declared.Begun.{Begun}

-- `turns` of the loop over the records follow
abbrev pub begun : Outcome → (turns : ℕ) → Begun
begun o n = record { outcome = o; turns = n }

-- a start of `records` records, by whether one of them is bad; `times` and `image` are how many times and bytes are lent
unfoldable pub begin_of : Encoder → Settings → (bad : Bool) → (records times image : ℕ) → Begun
begin_of s settings bad n t i = guarded (start_tests settings n bad t i) (λ k. begun (outcome (Err (refusal_from k)) s) 0) (begun (outcome (Ok Started) (start_state settings)) n)

-- the image before the loop
unfoldable pub begin_in : Settings → (bad : Bool) → (records times : ℕ) → (image : List ℕ) → List ℕ
begin_in settings bad n t i = guarded (start_tests settings n bad t (length i)) (λ k. i) (head_numbers settings.limit settings.signals i)

-- a start with its loops
abbrev pub start_carried : Settings → Memory → After
start_carried settings m =
    let bad = any_bad m.records in
    let n = length m.records in
    let b = begin_of m.state settings bad n (length m.times) (length m.image) in
    after (reply_of b.outcome.answer)
    (memory b.outcome.state (first_by fresh b.turns m.records) m.times m.work
    (kinds_put b.turns m.records (begin_in settings bad n (length m.times) m.image)))
