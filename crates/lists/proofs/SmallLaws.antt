-- A list of one element.
-- Assumes nothing.
use Prim.Native.Nat.{ℕ}
use mathlib.Core.Path.{◌≡◌, refl}
use mathlib.Core.List.{List, [], ◌∷◌}
use native.Mathlib.Omega.{arith}
use lib.ListN.{length, get_or}

pub one-element : (s : List ℕ) → length s ≡ 1 → s ≡ get_or s 0 0 ∷ []
one-element [] e = absurd (omega arith)
one-element (x ∷ []) e = refl
one-element (x ∷ y ∷ s) e = absurd (omega arith)
