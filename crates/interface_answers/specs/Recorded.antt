-- How the answers of the recorder's calls cross as numbers: what is answered, and beside it the refusal's number or the total bytes of a
-- finish, 0 for the others.
-- Law (proofs/ToldLaws): what a caller reads is the answer and the state that a call left (outcome-back).
-- Assumes nothing.
use Rattle.std.specs.Prelude.{ℕ, List, eqb}
use Rattle.lists.specs.Choice.{pick}
use Rattle.recording.specs.declared.Encoder.{Encoder}
use Rattle.recording.specs.declared.SignalRecord.{SignalRecord}
use Rattle.recording.specs.Calls.{Heard, taken, same, back, recorded, skipped, silent, Reply, refuse, say, started, total}
use Rattle.recording.specs.Memory.{After}
use Rattle.interface_state.specs.declared.StateNumbers.{StateNumbers}
use Rattle.interface_answers.specs.declared.outcome.OutcomeNumbers.{OutcomeNumbers}
use Rattle.interface_state.specs.State.{state_after}

-- `silent` is no answer of a call
abbrev pub heard_number : Heard → ℕ
heard_number taken = 2
heard_number same = 3
heard_number back = 4
heard_number recorded = 5
heard_number skipped = 6
heard_number silent = 0

abbrev pub answer_number : Reply → ℕ
answer_number (refuse n) = 0
answer_number started = 1
answer_number (say h) = heard_number h
answer_number (total n) = 7

abbrev pub value_number : Reply → ℕ
value_number (refuse n) = n
value_number started = 0
value_number (say h) = 0
value_number (total n) = n

-- as a caller reads them
abbrev pub read_reply : (answer value : ℕ) → Reply
read_reply a v =
    pick (eqb a 1) started
    (pick (eqb a 2) (say taken)
    (pick (eqb a 3) (say same)
    (pick (eqb a 4) (say back)
    (pick (eqb a 5) (say recorded)
    (pick (eqb a 6) (say skipped)
    (pick (eqb a 7) (total v)
    (refuse v)))))))

unfoldable pub outcome_of : StateNumbers → Reply → Encoder → OutcomeNumbers
outcome_of s r e = record { answer = answer_number r; value = value_number r; state = state_after s e }

-- the outcome, and the lent memory afterwards
pub record Told : Type 0 where
  pub outcome : OutcomeNumbers
  pub records : List SignalRecord
  pub times : List ℕ
  pub work : List ℕ
  pub image : List ℕ

abbrev pub told : OutcomeNumbers → List SignalRecord → (times work image : List ℕ) → Told
told o r t w i = record { outcome = o; records = r; times = t; work = w; image = i }

-- what a call that got numbers s tells
unfoldable pub told_of : StateNumbers → After → Told
told_of s a =
    let m = a.memory in told (outcome_of s a.reply m.state) m.records m.times m.work m.image
