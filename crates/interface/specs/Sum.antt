-- The sum of bytes.
-- Assumes nothing.
use Rattle.std.specs.Prelude.{ℕ, ◌+◌, ◌%◌, ◌^◌, List, [], ◌∷◌}

-- a and all of the bytes, 64 bits kept at each
unfoldable pub sum_from : (a : ℕ) → List ℕ → ℕ
sum_from a [] = a
sum_from a (b ∷ l) = sum_from ((a + b) % 2 ^ 64) l
