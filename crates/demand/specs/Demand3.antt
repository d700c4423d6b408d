-- Demand 3 of document 00: what a list of a recording's calls leaves loads as the list's history; with document 02's joins: what is joined loads
-- as one history after the other. It is stated over the definitions that the contracts cite: start_of, and step and run, which are made of
-- time_of, change_of and finish_of (crate recording); join_of (joined); open_of, load_of, table_of and cursor_of (loaded); and over the history (history).
-- Assumes nothing.
use Rattle.std.specs.Prelude.{ℕ, ◌≤◌, ◌<◌, ◌*◌, ◌^◌, ◌≡◌, true, List, [], ◌∷◌, ◌++◌, map, length, take, get_or, eqb}
use Rattle.std.proofs.lemmas.List.Edits.{sets}
use Rattle.lists.specs.Bytes.{Bytes}
use Rattle.lists.specs.Choice.{pick}
use Rattle.signal.specs.declared.kind.SignalEncoding.{SignalEncoding}
use Rattle.signal.specs.declared.kind.SignalEncoding.TheVariants.{Absent}
use Rattle.signal.specs.Kind.{width_of}
use Rattle.codec.specs.Valid.{Rising}
use Rattle.recording.specs.declared.Encoder.{Encoder}
use Rattle.recording.specs.declared.Settings.{Settings}
use Rattle.recording.specs.declared.SignalRecord.{SignalRecord}
use Rattle.recording.specs.Calls.{Call, finish, started, total, refusals, heard, Slice, Fitting}
use Rattle.recording.specs.Memory.{Memory}
use Rattle.recording.specs.Step.{start_of, step, run, Ran, kinds_of}
use Rattle.history.specs.History.{History, no_history, Telling, tell_all, kept_of, class_of, shown_at}
use Rattle.history.specs.Followed.{followed}
use Rattle.loaded.specs.Opener.{open_of}
use Rattle.loaded.specs.EntryBytes.{entries_bytes}
use Rattle.loaded.specs.Reader.{load_of, load_after, loaded, index_in, table_of, table_after, counted, cursor_of, pointed}
use Rattle.joined.specs.Join.{joined, join_of}

-- a state and a record as their types can hold them
pub record StateFits (s : Encoder) : Type 0 where
  pub limit : s.limit < 2 ^ 32
  pub signals : s.signals < 2 ^ 32
  pub held : s.held < 2 ^ 32
  pub work : s.work < 2 ^ 64
  pub image : s.image < 2 ^ 32
  pub blocks : s.blocks < 2 ^ 32
  pub edition : s.edition < 2 ^ 32
  pub zero : s.skips.zero.count < 2 ^ 32
  pub one : s.skips.one.count < 2 ^ 32

abbrev pub RecordFits : SignalRecord → Type 0
RecordFits r = (width_of r.kind < 2 ^ 32) × (r.index < 2 ^ 32) × (r.probe < 2 ^ 8)

unfoldable pub RecordsFit : List SignalRecord → Type 0
RecordsFit [] = Unit {0}
RecordsFit (r ∷ rs) = RecordFits r × RecordsFit rs

-- memory that can be lent: a state and records of their types, slices of bytes, and one of times of 64 bits
pub record Lent (m : Memory) : Type 0 where
  pub state : StateFits m.state
  pub records : RecordsFit m.records
  pub work : Slice m.work
  pub image : Slice m.image
  pub times : (i : ℕ) → get_or m.times i 0 < 2 ^ 64
  pub long : 8 * length m.times < 2 ^ 63

-- "each on the state and buffers as the one before left them, nobody else writing there"
abbrev pub ran_from : Settings → Memory → List Call → Ran
ran_from settings m calls = run (start_of settings m).memory calls

-- "any list of a recording's calls (time; VCD, raw and real change; finish), refused and skipped ones included, from an accepted start to
-- an accepted finish"
pub record Recorded (settings : Settings) (m : Memory) (calls : List Call) (size : ℕ) : Type 0 where
  -- no condition of ours: what the types of state, records, slices and arguments can hold
  pub lent : Lent m
  pub fitting : Fitting calls
  pub start : (start_of settings m).reply ≡ started
  pub end : (step (ran_from settings m calls).last finish).reply ≡ total size

-- "The image left: the image buffer's first total bytes"
abbrev pub left_by : Settings → Memory → List Call → (size : ℕ) → List ℕ
left_by settings m calls size = take size (step (ran_from settings m calls).last finish).memory.image

-- "Fed: kinds, a list's calls and, of the answers, only which are refusals; nothing of the recorder's state"; "History under edition 2 is read
-- with its rule": the edition is the one that was chosen at the start
abbrev pub history_of : Settings → Memory → List Call → Telling
history_of settings m calls = tell_all (kinds_of m.records) settings.edition no_history calls (refusals (ran_from settings m calls).replies)

abbrev pub kept_bytes : List SignalEncoding → History → (signal : ℕ) → List ℕ
kept_bytes ks h g = entries_bytes (get_or ks g Absent) (class_of h g) (kept_of h g)

-- "loads as exactly the list's history"
pub record LoadsAs (ks : List SignalEncoding) (h : History) (b : List ℕ) : Type 0 where
  pub opens : open_of b ≡ true
  -- "Given long enough outputs": "The table equals the times taken, strictly rising"
  pub rising : Rising h.times
  pub table : (out : List ℕ) → length h.times ≤ length out
      → table_of b out ≡ table_after (counted (length h.times)) (sets out 0 h.times)
  -- "Each signal shows its kept changes, no more and no fewer, in call order, each with its content, at the last time taken before it";
  -- "Loading a signal not absent answers its class and the number of its kept changes, with their places as indices and their contents as
  -- entries of that class"
  pub signals : (g : ℕ) (index bytes : List ℕ) → g < length ks → (get_or ks g Absent ≡ Absent → ⊥)
      → length (kept_of h g) ≤ length index → length (kept_bytes ks h g) ≤ length bytes
      → load_of b g index bytes
      ≡ load_after (loaded (length (kept_of h g)) (class_of h g)) (sets index 0 (map index_in (kept_of h g))) (sets bytes 0 (kept_bytes ks h g))
  -- the cursor, which demand 3 does not name: it shows the last kept change at or before t, as the history finds it; how it is answered is `pointed`
  pub cursor : (g t : ℕ) (out : List ℕ) → g < length ks → (get_or ks g Absent ≡ Absent → ⊥) → width_of (get_or ks g Absent) ≤ length out
      → cursor_of b g t out ≡ pointed h.times (shown_at h g t) out

-- "left by a list of calls, or joined from accepted images": what such bytes tell, by kinds and history
pub data Tells : List SignalEncoding → History → List ℕ → Type 0 where
  left : (settings : Settings) (m : Memory) (calls : List Call) (size : ℕ) → Recorded settings m calls size
      → Tells (kinds_of m.records) (history_of settings m calls).last (left_by settings m calls size)
  join : (ks ls : List SignalEncoding) (h k : History) (a b out : List ℕ) (size : ℕ) → Tells ks h a → Tells ls k b
      → (join_of a b out).reply ≡ joined size → Tells ks (followed h k) (take size (join_of a b out).out)

pub record Demand3 : Type 0 where
  -- "the image left loads as exactly the list's history in document 01"; "A joined image loads as one history after the other"
  pub loads : (ks : List SignalEncoding) (h : History) (b : List ℕ) → Tells ks h b → LoadsAs ks h b
  -- "The answers of times and changes that are no refusals, and the skipped count, are that history's too"; "The skipped count is kept per probe"
  pub answers : (settings : Settings) (m : Memory) (calls : List Call) (size : ℕ) → Recorded settings m calls size
      → heard (ran_from settings m calls).replies ≡ (history_of settings m calls).answers
  pub counts : (settings : Settings) (m : Memory) (calls : List Call) (size : ℕ) → Recorded settings m calls size
      → let s = (step (ran_from settings m calls).last finish).memory.state.skips in
      let k = (history_of settings m calls).last.skips in
      (s.zero.count ≡ k.zero.count) × (s.one.count ≡ k.one.count)
  -- the opener accepts exactly these: each by `opens` of what `loads` says, and no others
  pub accepted : (b : List ℕ) → Bytes b → open_of b ≡ true → (ks : List SignalEncoding) × (h : History) × Tells ks h b

-- beyond the demand: what a recording without a finish leaves, as when a unit loses its power. The calls that are in the image are those
-- before the last one that cut a block (none before any cut). `held` are those found so far, `done` all calls before the list
unfoldable pub calls_in : Memory → (held done : List Call) → List Call → List Call
calls_in m held done [] = held
calls_in m held done (c ∷ cs) =
    let n = (step m c).memory in calls_in n (pick (eqb n.state.blocks m.state.blocks) held done) (done ++ c ∷ []) cs

-- the used image bytes load as the history of these
pub record PowerLoss : Type 0 where
  pub used : (settings : Settings) (m : Memory) (calls : List Call) → Fitting calls → (start_of settings m).reply ≡ started
      → let r = (ran_from settings m calls).last in
      LoadsAs (kinds_of m.records) (history_of settings m (calls_in (start_of settings m).memory [] [] calls)).last (take r.state.image r.image)
