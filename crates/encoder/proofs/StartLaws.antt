-- A start neither reads nor changes the work buffer.
-- Assumes nothing.
use Prim.Native.Nat.{ℕ}
use mathlib.Core.Path.{◌≡◌, sym}
use mathlib.Core.List.{List}
use Rattle.recording.specs.declared.Settings.{Settings}
use Rattle.recording.specs.Memory.{Memory, memory, After, after, refused}
use Rattle.recording.specs.Step.{start_of}
use Rattle.recording.proofs.StartLaws.{begun_in, asked}
use Rattle.recording.proofs.TestsLaws.{guarded-map}

abbrev lent_work : List ℕ → Memory → Memory
lent_work w m = memory m.state m.records m.times w m.image

abbrev left_work : List ℕ → After → After
left_work w a = after a.reply (lent_work w a.memory)

-- a start with another work buffer gives the same, but for that buffer, which stays as it was lent
pub start-work : (settings : Settings) (m : Memory) (w : List ℕ) → start_of settings (lent_work w m) ≡ left_work w (start_of settings m)
unfolding start_of
start-work settings m w = sym (guarded-map (left_work w) (asked settings m) (refused m) (begun_in settings m))
