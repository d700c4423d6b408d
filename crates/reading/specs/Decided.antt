-- A decision as a truth value, and numbers in a row.
-- Assumes nothing.
use Rattle.std.specs.Prelude.{ℕ, zero, suc, ◌+◌, Bool, true, false, List, [], ◌∷◌, take, drop}
use Rattle.numbers.specs.LittleEndian.{unle}

abbrev pub is_yes : {P : Type 0} → Dec P → Bool
is_yes (yes p) = true
is_yes (no n) = false

-- n numbers of w bytes, at a place
unfoldable pub uints : (w n : ℕ) → List ℕ → (at : ℕ) → List ℕ
uints w zero s at = []
uints w (suc n) s at = unle (take w (drop at s)) ∷ uints w n s (at + w)
