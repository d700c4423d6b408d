-- The last entry at or before t, of those kept so far, and what one change more makes of it, and a block, and all blocks.
-- Laws (proofs/PointLaws, proofs/LoadLaws): all blocks make of it the entry that `entry_at` finds among those that loading keeps.
-- Assumes nothing.
use Rattle.std.specs.Prelude.{ℕ, suc, List, [], ◌∷◌, get_or, leb}
use Rattle.std.proofs.Math.Option.{Option, some, none}
use Rattle.lists.specs.Choice.{pick}
use Rattle.signal.specs.declared.kind.SignalEncoding.{SignalEncoding}
use Rattle.signal.specs.Content.{Content}
use Rattle.stream.specs.Entries.{Entry}
use Rattle.image.specs.Block.{Block}
use Rattle.loaded.specs.Opener.{part_at}
use Rattle.loaded.specs.Loading.{entries_in}
use Rattle.entry_same.specs.Kept.{repeats_kept, kept_content, KeptReads}
use Rattle.cursor_point.specs.declared.Pointing.{Pointing}

-- how many entries are kept of the changes at or before t; the time and the content of the last of them
pub record Point : Type 0 where
  pub count : ℕ
  pub time : ℕ
  pub content : Option Content

abbrev pub point : (count time : ℕ) → Option Content → Point
point n t c = record { count = n; time = t; content = c }

abbrev pub unpointed : Point
unpointed = point 0 0 none

-- a change more: a repeat is dropped
unfoldable pub kept : Point → (time : ℕ) → Content → Point
kept s u c = pick (repeats_kept s.content c) s (point (suc s.count) u (some c))

-- a change after t is passed over
unfoldable pub passed : (t : ℕ) → Point → (time : ℕ) → Content → Point
passed t s u c = pick (leb u t) (kept s u c) s

-- changes, whose indices count in these times
unfoldable pub all_passed : (times : List ℕ) (t : ℕ) → Point → List Entry → Point
all_passed ts t s [] = s
all_passed ts t s (e ∷ es) = all_passed ts t (passed t s (get_or ts e.index 0) e.content) es

-- the changes of a signal in blocks
unfoldable pub blocks_passed : (t signal : ℕ) → Point → List (Block (List Entry)) → Point
blocks_passed t g s [] = s
blocks_passed t g s (y ∷ ys) = blocks_passed t g (all_passed y.times t s (entries_in (part_at y g))) ys

-- ---- what the code holds of it: changes by their places in the image

abbrev pub point_as : SignalEncoding → (image : List ℕ) → Pointing → Point
point_as k b s = point s.count s.time (kept_content k b s.last)

abbrev pub PointReads : SignalEncoding → (image : List ℕ) → Pointing → Type 0
PointReads k b s = KeptReads k b s.last
