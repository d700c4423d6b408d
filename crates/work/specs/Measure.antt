-- How many data bytes the block of some work has: a signal with stream bytes takes these and a class byte.
-- Assumes nothing.
use Rattle.std.specs.Prelude.{ℕ, zero, suc, ◌+◌, List, length}
use Rattle.std.specs.Prelude as code
use Rattle.std.proofs.Math.Option.{Option, some, none}
use Rattle.recording.specs.Work.{Item, gather}

abbrev pub part_length : (stream : ℕ) → ℕ
part_length zero = 0
part_length (suc n) = suc (suc n)

-- of the signals g, g + 1, .., n of them
unfoldable pub data_length : (g n : ℕ) → List Item → ℕ
data_length g zero is = 0
data_length g (suc n) is = part_length (length (gather g is)) + data_length (suc g) n is

-- what measuring answers of work that divides into records, and of work that does not
abbrev pub measured : (signals : ℕ) → Option (List Item) → code.Option ℕ
measured s none = code.None
measured s (some is) = code.Some (data_length 0 s is)
