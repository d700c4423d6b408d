-- Document 02, (k): "Two lists as in demand 3, from equal starts and differing, call by call, only in the values that probe 0 sends, leave everything
-- loaded for probe 1, and each answer to it, the same, provided neither run meets 7 or 8."
--
-- What is left out, and the smallest input that shows why (each is computed in proofs/Cases):
-- 7. The work buffer is shared. Two signals of width 1 and 9 work bytes: where probe 0's value is recorded, probe 1's change meets 7; where probe
--    0's value is bad, it is recorded (work-shared).
-- 8. The image is shared. One signal of width 1, B 2 and 52 image bytes, in a table that is full: where probe 0's value was recorded, a larger time
--    of probe 1 meets 8; where it was bad, the time is taken (image-shared). After it a finish meets 8 too, as the block that did not fit only
--    grows; so this condition follows from an accepted finish. That is not proved and nothing leans on it: the condition stands as in the paper.
-- Probe 0's times. The table is common: after its time 0 a time 0 of probe 1 is "same", after its time 1 it is "back" (table-shared).
-- Files. A file is a list of calls that ends at the first that is refused: with a bad value in it probe 0 sends fewer times (file-ended).
-- Assumes nothing.
use Rattle.std.specs.Prelude.{ℕ, ◌≡◌, Bool, false, List, [], ◌∷◌, eqb}
use Rattle.lists.specs.Choice.{pick}
use Rattle.signal.specs.Content.{Given}
use Rattle.recording.specs.declared.Settings.{Settings}
use Rattle.recording.specs.declared.Skips.{Skips}
use Rattle.recording.specs.Calls.{Call, time, change, finish, Reply, refuse}
use Rattle.recording.specs.Memory.{Memory, record_at}
use Rattle.recording.specs.Step.{step}
use Rattle.loaded.specs.Opener.{stream_of}
use Rattle.loaded.specs.Reader.{load_of, table_of, cursor_of}
use Rattle.demand.specs.Demand3.{Recorded, ran_from, left_by}

-- "differing, call by call, only in the values that probe 0 sends", of whatever notation
pub data Alike : List Call → List Call → Type 0 where
  none : Alike [] []
  same : (c : Call) (cs ds : List Call) → Alike cs ds → Alike (c ∷ cs) (c ∷ ds)
  value : (g : ℕ) (v w : Given) (cs ds : List Call) → Alike cs ds → Alike (change 0 g v ∷ cs) (change 0 g w ∷ ds)

-- "neither run meets 7 or 8"
abbrev pub NeverFull : List Reply → Type 0
NeverFull [] = Unit {0}
NeverFull (r ∷ rs) = ((r ≡ refuse 7 → ⊥) × (r ≡ refuse 8 → ⊥)) × NeverFull rs

-- finish names no sender
abbrev pub by_one : Call → Bool
by_one (time p t) = eqb p 1
by_one (change p g v) = eqb p 1
by_one finish = false

-- "each answer to it": refusals by their numbers too
unfoldable pub to_one : List Call → List Reply → List Reply
to_one [] rs = []
to_one (c ∷ cs) [] = []
to_one (c ∷ cs) (r ∷ rs) = pick (by_one c) (r ∷ to_one cs rs) (to_one cs rs)

-- "Two lists as in demand 3, from equal starts": with the same settings, on the same lent memory, the records and their probes among it
pub record Pair (settings : Settings) (m : Memory) (cs ds : List Call) (n k : ℕ) : Type 0 where
  pub first : Recorded settings m cs n
  pub second : Recorded settings m ds k
  pub alike : Alike cs ds
  pub first-room : NeverFull (ran_from settings m cs).replies
  pub second-room : NeverFull (ran_from settings m ds).replies

-- both probes' skips and counts after the accepted finish
abbrev pub skips_left : Settings → Memory → List Call → Skips
skips_left settings m calls = (step (ran_from settings m calls).last finish).memory.state.skips

-- "everything loaded for probe 1": of images a and b, for a signal whose record names it. Outputs may be of any length: 9 is the same too
pub record LoadAlike (a b : List ℕ) (g : ℕ) : Type 0 where
  pub load : (index bytes : List ℕ) → load_of a g index bytes ≡ load_of b g index bytes
  pub cursor : (t : ℕ) (symbols : List ℕ) → cursor_of a g t symbols ≡ cursor_of b g t symbols
  pub stream : (block : ℕ) → stream_of a block g ≡ stream_of b block g

pub record Untouched (settings : Settings) (m : Memory) (cs ds : List Call) (n k : ℕ) : Type 0 where
  pub answers : to_one cs (ran_from settings m cs).replies ≡ to_one ds (ran_from settings m ds).replies
  pub signals : (g : ℕ) → (record_at m g).probe ≡ 1 → LoadAlike (left_by settings m cs n) (left_by settings m ds k) g
  pub table : (out : List ℕ) → table_of (left_by settings m cs n) out ≡ table_of (left_by settings m ds k) out
  -- beyond the paper
  pub skips : skips_left settings m cs ≡ skips_left settings m ds

pub record Apart : Type 0 where
  pub untouched : (settings : Settings) (m : Memory) (cs ds : List Call) (n k : ℕ) → Pair settings m cs ds n k → Untouched settings m cs ds n k
