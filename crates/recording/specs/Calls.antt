-- Document 01, 'Recording' and 'History': the calls of a recording, and what their answers say.
-- Assumes nothing.
use Rattle.std.specs.Prelude.{ℕ, ◌+◌, ◌<◌, ◌^◌, Bool, true, false, List, [], ◌∷◌, map, length, ltb, eqb, Result, Ok, Err}
use Rattle.lists.specs.Bytes.{Bytes}
use Rattle.lists.specs.Choice.{pick}
use Rattle.lists.specs.Last.{last_or}
use Rattle.refusal.specs.declared.Refusal.{Refusal}
use Rattle.refusal.specs.Refusal.{refusal_number}
use Rattle.signal.specs.Content.{Given, vcd, raw, real}
use Rattle.recording.specs.declared.Answer.{Answer}
use Rattle.recording.specs.declared.Answer.TheVariants.{Started, Taken, Same, Back, Recorded, Skipped, Finished}

-- time; VCD, raw and real change (the cases of `Given`) of any signal number; finish. Document 02, (k): each time and change names its sender, of
-- any number; finish names none
pub data Call : Type 0 where
  time : (sender t : ℕ) → Call
  change : (sender signal : ℕ) → Given → Call
  finish : Call

-- what can be lent as a slice of bytes
abbrev pub Slice : List ℕ → Type 0
Slice s = Bytes s × (length s < 2 ^ 63)

-- what a caller can give: times and a real's bits have 64 bits, senders, signal numbers and claims 32
abbrev pub ValueFits : Given → Type 0
ValueFits (vcd v) = Slice v
ValueFits (raw c v) = (c < 2 ^ 32) × Slice v
ValueFits (real b) = b < 2 ^ 64

abbrev pub CallFits : Call → Type 0
CallFits (time p t) = (p < 2 ^ 32) × (t < 2 ^ 64)
CallFits (change p g v) = (p < 2 ^ 32) × (g < 2 ^ 32) × ValueFits v
CallFits finish = Unit {0}

unfoldable pub Fitting : List Call → Type 0
Fitting [] = Unit {0}
Fitting (c ∷ cs) = CallFits c × Fitting cs

-- the answers of times and changes that are no refusals; `silent` stands for every other answer
pub data Heard : Type 0 where
  taken : Heard
  same : Heard
  back : Heard
  recorded : Heard
  skipped : Heard
  silent : Heard

-- an answer: a refusal by its number, an answer of a time or a change, a start, or the total bytes of a finish
pub data Reply : Type 0 where
  refuse : ℕ → Reply
  say : Heard → Reply
  started : Reply
  total : ℕ → Reply

-- the one reading of the code's answers and refusals
abbrev pub reply_of : Result Answer Refusal → Reply
reply_of (Ok Started) = started
reply_of (Ok Taken) = say taken
reply_of (Ok Same) = say same
reply_of (Ok Back) = say back
reply_of (Ok Recorded) = say recorded
reply_of (Ok Skipped) = say skipped
reply_of (Ok (Finished n)) = total n
reply_of (Err r) = refuse (refusal_number r)

-- of the answers, only which are refusals
abbrev pub is_refusal : Reply → Bool
is_refusal (refuse n) = true
is_refusal (say a) = false
is_refusal started = false
is_refusal (total n) = false

abbrev pub refusals : List Reply → List Bool
refusals = map is_refusal

-- the answers of times and changes that are no refusals
abbrev pub heard_of : Reply → Heard
heard_of (refuse n) = silent
heard_of (say a) = a
heard_of started = silent
heard_of (total n) = silent

abbrev pub heard : List Reply → List Heard
heard = map heard_of

-- a time against the last one taken: the first and a larger one are above
pub data Way : Type 0 where
  above : Way
  equal : Way
  below : Way

unfoldable pub way_of : List ℕ → ℕ → Way
way_of [] t = above
way_of (x ∷ l) t = pick (ltb (last_or x l) t) above (pick (eqb t (last_or x l)) equal below)

-- the skipped changes are counted with 32 bits, then the count stays at its top
abbrev pub counted : ℕ → ℕ
counted n = pick (ltb n 4294967295) (n + 1) n
