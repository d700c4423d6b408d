-- The recorder over a slice of records and over their numbers gives the same answers. Each call's contract equates what the call leaves, with
-- what its stored records stand for, with one definition (`start_of`, `time_of`, `change_of`, `finish_of`) of what it found: x below. So a call on
-- records and the same call on their numbers answer the same, and leave the same state, the same buffers and the same records; no two lists of
-- numbers are the same records (storage: records-same).
-- Assumes nothing.
use Rattle.std.specs.Prelude.{ℕ, List, Result, Ok, Err}
use Rattle.std.proofs.Common.{◌≡◌, refl, sym, ap, ◌∙◌}
use Rattle.refusal.specs.declared.Refusal.{Refusal}
use Rattle.refusal.specs.Named.{refusal_from}
use Rattle.refusal.proofs.NamedLaws.{refusal_back}
use Rattle.recording.specs.declared.Answer.{Answer}
use Rattle.recording.specs.declared.Answer.TheVariants.{Started, Taken, Same, Back, Recorded, Skipped, Finished}
use Rattle.recording.specs.declared.Encoder.{Encoder}
use Rattle.recording.specs.declared.SignalRecord.{SignalRecord}
use Rattle.recording.specs.Calls.{taken, same, back, recorded, skipped, silent, Reply, refuse, say, started, total, reply_of}
use Rattle.recording.specs.Memory.{After, after, memory}
use Rattle.storage.specs.Storage.{records_of}

answer_of : Reply → Result Answer Refusal
answer_of started = Ok Started
answer_of (say taken) = Ok Taken
answer_of (say same) = Ok Same
answer_of (say back) = Ok Back
answer_of (say recorded) = Ok Recorded
answer_of (say skipped) = Ok Skipped
answer_of (say silent) = Ok Skipped
answer_of (total n) = Ok (Finished n)
answer_of (refuse n) = Err (refusal_from n)

answer_back : (a : Result Answer Refusal) → answer_of (reply_of a) ≡ a
unfolding answer_of
answer_back (Ok Started) = refl
answer_back (Ok Taken) = refl
answer_back (Ok Same) = refl
answer_back (Ok Back) = refl
answer_back (Ok Recorded) = refl
answer_back (Ok Skipped) = refl
answer_back (Ok (Finished n)) = refl
answer_back (Err r) = ap Err (refusal_back r)

-- what a call on numbers left, beside what a call on records left
pub record Alike (a b : Result Answer Refusal) (s s' : Encoder) (ns : List ℕ) (rs : List SignalRecord) (t t' w w' i i' : List ℕ) : Type 0 where
  pub answers : a ≡ b
  pub states : s ≡ s'
  pub records : records_of ns ≡ rs
  pub times : t ≡ t'
  pub work : w ≡ w'
  pub image : i ≡ i'

pub same-answers : (x : After) (a b : Result Answer Refusal) (s s' : Encoder) (ns : List ℕ) (rs : List SignalRecord) (t t' w w' i i' : List ℕ)
    → after (reply_of a) (memory s (records_of ns) t w i) ≡ x → after (reply_of b) (memory s' rs t' w' i') ≡ x
    → Alike a b s s' ns rs t t' w w' i i'
same-answers x a b s s' ns rs t t' w w' i i' f e =
    let both = f ∙ sym e in
    record {
      answers = sym (answer_back a) ∙ ap (λ (y : After). answer_of y.reply) both ∙ answer_back b;
      states = ap (λ (y : After). y.memory.state) both;
      records = ap (λ (y : After). y.memory.records) both;
      times = ap (λ (y : After). y.memory.times) both;
      work = ap (λ (y : After). y.memory.work) both;
      image = ap (λ (y : After). y.memory.image) both;
    }
