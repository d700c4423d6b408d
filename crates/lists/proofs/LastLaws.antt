-- The last element of a list by its place, and of two lists one after the other.
-- Assumes nothing.
use Prim.Native.Nat.{ℕ, zero, suc, ◌-◌, ◌≤◌, ◌<◌}
use mathlib.Core.Path.{◌≡◌, refl, ◌∙◌}
use mathlib.Core.List.{List, [], ◌∷◌, ◌++◌}
use native.Mathlib.Omega.{arith}
use native.Mathlib.Numerals.{unary_clauses}
use lib.ListN.{length, take, get_or}
use Rattle.std.proofs.Common.{unwrap_or, slice_get}
use Rattle.std.proofs.lemmas.Option.{unwrap_or-slice_get}
use Rattle.lists.specs.Last.{last_or}

pub last-append : (d : ℕ) (a b : List ℕ) → last_or d (a ++ b) ≡ last_or (last_or d a) b
unfolding last_or
last-append d [] b = refl
last-append d (x ∷ a) b = last-append x a b

pub last-at : (x : ℕ) (l : List ℕ) → last_or x l ≡ get_or (x ∷ l) (length l) 0
unfolding last_or
last-at x [] = refl
last-at x (y ∷ l) = last-at y l

-- of a list with any
pub last_of : (d : ℕ) (v : List ℕ) → 0 < length v → last_or d v ≡ get_or v (length v - 1) 0
unfolding last_or
last_of d [] h = absurd (omega arith)
last_of d (x ∷ v) h = simp unary_clauses (last-at x v)

-- as the code reads it: the element at the last place, d where there is none
last_read : (d x : ℕ) (l : List ℕ) → get_or (x ∷ l) (length l) d ≡ last_or x l
unfolding last_or
last_read d x [] = refl
last_read d x (y ∷ l) = last_read d y l

pub last_found : (d : ℕ) (v : List ℕ) → unwrap_or (slice_get v (length v - 1)) d ≡ last_or d v
unfolding last_or
last_found d [] = refl
last_found d (x ∷ v) = unwrap_or-slice_get (x ∷ v) (length (x ∷ v) - 1) d ∙ simp unary_clauses (last_read d x v)

-- of the first n
pub last_taken : (x : ℕ) (l : List ℕ) (n : ℕ) → n ≤ length l → last_or x (take n l) ≡ get_or (x ∷ l) n 0
unfolding last_or
last_taken x l zero h = refl
last_taken x [] (suc n) h = absurd (omega arith)
last_taken x (y ∷ l) (suc n) h = last_taken y l n (omega arith)
