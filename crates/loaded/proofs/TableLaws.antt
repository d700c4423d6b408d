-- How long the combined table is after a block.
-- Assumes nothing.
use Prim.Native.Nat.{ℕ, suc, ◌+◌, ◌-◌, ◌≤◌}
use mathlib.Core.Path.{◌≡◌, ◌∙◌}
use mathlib.Core.Bool.{Bool, true, false}
use mathlib.Core.List.{List, [], ◌∷◌}
use native.Mathlib.Omega.{arith}
use lib.ListN.{length, drop, length-append, length-drop}
use lib.Dec.{eqb}
use Rattle.lists.specs.Choice.{pick}
use Rattle.lists.specs.Last.{last_or}
use Rattle.loaded.specs.Loading.{overlap, join_times}

pub overlap-both : (l ts : List ℕ) → (overlap l ts ≤ length l) × (overlap l ts ≤ length ts)
overlap-both [] ts = (omega arith, omega arith)
overlap-both (x ∷ l) [] = (omega arith, omega arith)
overlap-both (x ∷ l) (t ∷ ts) = by (eqb t (last_or x l))
  where
    by : (b : Bool) → (pick b 1 0 ≤ suc (length l)) × (pick b 1 0 ≤ suc (length ts))
    by true = (omega arith, omega arith)
    by false = (omega arith, omega arith)

pub joined_length : (l ts : List ℕ) → length (join_times l ts) ≡ length l - overlap l ts + length ts
joined_length l ts =
    let o = overlap-both l ts in
    length-append l (drop (overlap l ts) ts) ∙ omega (arith, length-drop (overlap l ts) ts, o.0, o.1)
