-- Bytes one after the other, and a class that the first of them carries.
-- Assumes nothing.
use Prim.Native.Nat.{ℕ, ◌+◌, ◌≤◌, ◌<◌}
use mathlib.Core.Path.{◌≡◌}
use mathlib.Core.List.{List, [], ◌∷◌, ◌++◌, append_assoc}
use native.Mathlib.Omega.{arith}
use lib.ListN.{length, take, drop, get_or, set}
use lib.Seq.{sets, sets-eq, set_at, get_or_at, length-take-le}
use Rattle.loaded.specs.EntryBytes.{carrying}

module _ (b l : List ℕ) (at : ℕ) (some : 0 < length b) (room : at + length b ≤ length l) where
  -- what stands at the place of the first
  pub first-at : get_or (sets l at b) at 0 ≡ get_or b 0 0
  first-at = by b some room
    where
      by : (b : List ℕ) → 0 < length b → at + length b ≤ length l → get_or (sets l at b) at 0 ≡ get_or b 0 0
      by [] s r = absurd (omega arith)
      by (x ∷ b) s r =
          rw (sets-eq (x ∷ b) l at r, append_assoc) (get_or_at (take at l) x (b ++ drop (at + length (x ∷ b)) l) 0 at (length-take-le at l (omega arith)))

  -- the first stored again, with m more
  pub carried-at : (m : ℕ) → set (sets l at b) at (m + get_or b 0 0) ≡ sets l at (carrying m b)
  carried-at m = by b some room
    where
      by : (b : List ℕ) → 0 < length b → at + length b ≤ length l → set (sets l at b) at (m + get_or b 0 0) ≡ sets l at (carrying m b)
      by [] s r = absurd (omega arith)
      by (x ∷ b) s r =
          rw (sets-eq (x ∷ b) l at r, sets-eq ((m + x) ∷ b) l at r, append_assoc (take at l) (x ∷ b), append_assoc (take at l) ((m + x) ∷ b))
          (set_at (take at l) x (b ++ drop (at + length (x ∷ b)) l) (m + x) at (length-take-le at l (omega arith)))
