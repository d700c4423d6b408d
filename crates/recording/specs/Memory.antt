-- The state, the records and the lent buffers of a call, and what a call leaves. They may be anything: the calls' definitions do not
-- assume that the calls before left them. `work` and `image` here are the buffers; the state's fields of these names count their used
-- bytes.
-- Assumes nothing.
use Rattle.std.specs.Prelude.{ℕ, Bool, List, [], ◌∷◌, get_or}
use Rattle.lists.specs.Choice.{pick}
use Rattle.value.specs.declared.states.States.{States}
use Rattle.value.specs.declared.states.States.TheVariants.{Two}
use Rattle.signal.specs.declared.kind.SignalEncoding.{SignalEncoding}
use Rattle.signal.specs.declared.kind.SignalEncoding.TheVariants.{Absent}
use Rattle.recording.specs.declared.Encoder.{Encoder}
use Rattle.recording.specs.declared.Outcome.{Outcome}
use Rattle.recording.specs.declared.SignalRecord.{SignalRecord}
use Rattle.recording.specs.Calls.{Reply, refuse, reply_of}

pub record Memory : Type 0 where
  pub state : Encoder
  pub records : List SignalRecord
  pub times : List ℕ
  pub work : List ℕ
  pub image : List ℕ

abbrev pub memory : Encoder → List SignalRecord → (times work image : List ℕ) → Memory
memory s r t w i = record { state = s; records = r; times = t; work = w; image = i }

pub record After : Type 0 where
  pub reply : Reply
  pub memory : Memory

abbrev pub after : Reply → Memory → After
after r m = record { reply = r; memory = m }

-- what a call leaves: its answer and state, and the memory that was lent to it
abbrev pub left : Outcome → List SignalRecord → (times work image : List ℕ) → After
left o r t w i = after (reply_of o.answer) (memory o.state r t w i)

abbrev pub record_of : SignalEncoding → (index : ℕ) → States → (probe : ℕ) → SignalRecord
record_of k i t p = record { kind = k; index = i; top = t; probe = p }

-- the record of a signal; past the records stands an absent one
abbrev pub record_at : Memory → ℕ → SignalRecord
record_at m g = get_or m.records g (record_of Absent 0 Two 0)

-- refusals in their order, each with its condition and its number
abbrev pub Tests : Type 0
Tests = List (Bool × ℕ)

-- the number of the first that holds; 0 where none does
abbrev pub first : Tests → ℕ
first [] = 0
first (t ∷ ts) = pick t.0 t.1 (first ts)

-- the first that holds refuses the call by its number
abbrev pub guarded : {A : Type 0} → Tests → (refused : ℕ → A) → A → A
guarded [] f e = e
guarded (t ∷ ts) f e = pick t.0 (f t.1) (guarded ts f e)

-- a refused call answers its number only, and all memory stays
abbrev pub refused : Memory → ℕ → After
refused m n = after (refuse n) m
