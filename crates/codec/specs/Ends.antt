-- The end that blocks leave, and the index of a stream's last entry.
-- Assumes nothing.
use Rattle.std.specs.Prelude.{ℕ, Bool, List, [], ◌∷◌}
use Rattle.std.proofs.Math.Option.{Option, some, none}
use Rattle.lists.specs.Choice.{pick}
use Rattle.lists.specs.Last.{last_or}
use Rattle.stream.specs.Entries.{Entry}
use Rattle.image.specs.Block.{Block}

-- the last time of the blocks; where there is none, the end before them, if any
unfoldable pub end_after : Option ℕ → List (Block (List Entry)) → Option ℕ
end_after end [] = end
end_after end (b ∷ bs) = end_after (some (last_or 0 b.times)) bs

-- as code holds it: whether a block came before, and its last time
abbrev pub end_of : (later : Bool) → ℕ → Option ℕ
end_of later end = pick later (some end) none

-- i where there is none
unfoldable pub last_index : (i : ℕ) → List Entry → ℕ
last_index i [] = i
last_index i (e ∷ l) = last_index e.index l
