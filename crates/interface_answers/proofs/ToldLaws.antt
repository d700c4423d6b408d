-- From the inner call's equation to that of the call on numbers; and that a caller reads the answer and the state that a call left.
-- Assumes nothing.
use Prim.Native.Nat.{ℕ}
use mathlib.Core.Path.{◌≡◌, refl, ap, ◌∙◌}
use mathlib.Core.List.{List}
use Rattle.recording.specs.declared.Encoder.{Encoder}
use Rattle.recording.specs.declared.SignalRecord.{SignalRecord}
use Rattle.recording.specs.declared.Outcome.{Outcome}
use Rattle.std.specs.Prelude.{Result, Ok, Err}
use Rattle.refusal.specs.declared.Refusal.{Refusal}
use Rattle.recording.specs.declared.Answer.{Answer}
use Rattle.recording.specs.declared.Answer.TheVariants.{Started, Taken, Same, Back, Recorded, Skipped, Finished}
use Rattle.recording.specs.Calls.{Reply, reply_of}
use Rattle.recording.specs.Memory.{memory, After, after, refused}
use Rattle.interface_state.specs.declared.StateNumbers.{StateNumbers}
use Rattle.interface_answers.specs.declared.outcome.OutcomeNumbers.{OutcomeNumbers}
use Rattle.interface_state.specs.State.{state_from}
use Rattle.interface_answers.specs.Recorded.{answer_number, value_number, read_reply, outcome_of, told, told_of}
use Rattle.interface_state.proofs.StateLaws.{state-same, state-back}

-- `call` is the inner call's definition over the state that it gets
pub told-made : (s : StateNumbers) (call : Encoder → After) (given : Encoder) (r : Reply) (e : Encoder) (records : List SignalRecord) (times work image : List ℕ) (o : OutcomeNumbers)
    → given ≡ state_from s → after r (memory e records times work image) ≡ call given → o ≡ outcome_of s r e
    → told o records times work image ≡ told_of s (call (state_from s))
unfolding told_of
told-made s call given r e records times work image o g c h = rw h (ap (told_of s) (c ∙ ap call g))

-- a refused call tells the state's numbers as it got them
pub refused-same : (s : StateNumbers) (records : List SignalRecord) (times work image : List ℕ) (n : ℕ)
    → (told_of s (refused (memory (state_from s) records times work image) n)).outcome.state ≡ s
unfolding told_of outcome_of
refused-same s records times work image n = state-same s

reply-back : (a : Result Answer Refusal) → read_reply (answer_number (reply_of a)) (value_number (reply_of a)) ≡ reply_of a
reply-back (Ok Started) = refl
reply-back (Ok Taken) = refl
reply-back (Ok Same) = refl
reply-back (Ok Back) = refl
reply-back (Ok Recorded) = refl
reply-back (Ok Skipped) = refl
reply-back (Ok (Finished n)) = refl
reply-back (Err r) = refl

-- a caller reads the answer and the state that the call left, whatever numbers it got
pub outcome-back : (s : StateNumbers) (o : Outcome) → let n = outcome_of s (reply_of o.answer) o.state in
    (read_reply n.answer n.value ≡ reply_of o.answer) × (state_from n.state ≡ o.state)
unfolding outcome_of
outcome-back s o = (reply-back o.answer, state-back s o.state)
