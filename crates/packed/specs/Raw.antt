-- Document 01, 'Symbol and value': what a raw value says: a claimed class and bytes, for a vector of a width. `none` is "bad".
-- Assumes nothing.
use Rattle.std.specs.Prelude.{ℕ, ◌-◌, ◌||◌, List, length, drop, ltb}
use Rattle.std.proofs.Math.Option.{Option, some, none}
use Rattle.lists.specs.Choice.{pick}
use Rattle.value.specs.Class.{all_symbols}
use Rattle.packed.specs.Packed.{packed_length, unpacked}

-- symbols, bad where one is above 8
abbrev pub checked : List ℕ → Option (List ℕ)
checked s = pick (all_symbols s) (some s) none

-- the last n elements
abbrev pub last_of : ℕ → List ℕ → List ℕ
last_of n v = drop (length v - n) v

-- the last ceil(width × bits / 8) bytes, bits being the claim's, count; top bits are ignored. A claim over 2, too few bytes, or a symbol
-- above 8 inside the width is bad
unfoldable pub raw_symbols : (width claim : ℕ) → List ℕ → Option (List ℕ)
raw_symbols w claim v =
    pick (ltb 2 claim || ltb (length v) (packed_length w claim)) none
    (checked (unpacked w claim (last_of (packed_length w claim) v)))
