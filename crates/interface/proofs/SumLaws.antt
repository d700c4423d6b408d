-- Laws of the sum of bytes, by the places of the loop.
-- Assumes nothing.
use Rattle.std.proofs.Common.{◌≡◌, ℕ, ◌+◌, ◌%◌, ◌^◌, ◌<◌, ◌≤◌, List, length, get_or, drop, refl, add-one, drop_of_length-le, drop-cons}
use Rattle.interface.specs.Sum.{sum_from}

-- a byte is added
pub sum-turn : (a i : ℕ) (l : List ℕ) → i < length l → sum_from a (drop i l) ≡ sum_from ((a + get_or l i 0) % 2 ^ 64) (drop (i + 1) l)
unfolding sum_from
sum-turn a i l h = rw (add-one i, drop-cons l i 0 h) refl

-- no byte is left
pub sum-end : (a i : ℕ) (l : List ℕ) → length l ≤ i → sum_from a (drop i l) ≡ a
unfolding sum_from
sum-end a i l h = rw (drop_of_length-le l h) refl
