-- A set of small numbers, one bit each, in bytes: the number i is bit i % 8 of the byte i / 8, lowest bit first.
-- Assumes nothing.
use Rattle.std.specs.Prelude.{ℕ, ◌/◌, ◌%◌, ◌^◌, Bool, List, get_or, eqb}

-- the number i is in the set; past the bytes none is
unfoldable pub mark_at : List ℕ → ℕ → Bool
mark_at m i = eqb (get_or m (i / 8) 0 / 2 ^ (i % 8) % 2) 1
