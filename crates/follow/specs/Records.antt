-- The work buffer as a list of records.
-- Assumes nothing.
use Rattle.std.specs.Prelude.{ℕ, ◌<◌, List, [], ◌∷◌, ◌++◌, length}
use Rattle.recording.specs.Work.{Item, item_bytes}

unfoldable pub work_bytes : List Item → List ℕ
work_bytes [] = []
work_bytes (r ∷ rs) = item_bytes r ++ work_bytes rs

-- every record is one of a signal below n, of a length that four bytes hold
abbrev pub Fits : (n : ℕ) → List Item → Type 0
Fits n [] = Unit {0}
Fits n (r ∷ rs) = (r.signal < n) × (length r.bytes < 4294967296) × Fits n rs
