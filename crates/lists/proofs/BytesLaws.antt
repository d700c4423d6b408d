-- Parts of a list of bytes are lists of bytes, and a byte before one makes another. And a list of zeros.
-- Assumes nothing.
use Prim.Native.Nat.{ℕ, zero, suc, ◌+◌, ◌<◌}
use mathlib.Core.Path.{◌≡◌, refl}
use mathlib.Core.List.{List, [], ◌∷◌}
use native.Mathlib.Omega.{arith}
use lib.ListN.{get_or, drop, take, replicate}
use lib.Seq.{get_or-drop}
use Rattle.lists.specs.Bytes.{Bytes}

pub no_bytes : Bytes []
no_bytes i = omega arith

pub cons-bytes : (b : ℕ) (s : List ℕ) → b < 256 → Bytes s → Bytes (b ∷ s)
cons-bytes b s l h zero = l
cons-bytes b s l h (suc i) = h i

pub tail-bytes : (b : ℕ) (s : List ℕ) → Bytes (b ∷ s) → Bytes s
tail-bytes b s h i = h (suc i)

pub drop-bytes : (n : ℕ) (s : List ℕ) → Bytes s → Bytes (drop n s)
drop-bytes n s h i = rw get_or-drop (h (n + i))

pub take-bytes : (n : ℕ) (s : List ℕ) → Bytes s → Bytes (take n s)
take-bytes zero s h i = omega arith
take-bytes (suc n) [] h i = omega arith
take-bytes (suc n) (b ∷ s) h zero = h 0
take-bytes (suc n) (b ∷ s) h (suc i) = take-bytes n s (tail-bytes b s h) i

pub zeros-at : (n i : ℕ) → get_or (replicate {A = ℕ} n 0) i 0 ≡ 0
zeros-at zero i = refl
zeros-at (suc n) zero = refl
zeros-at (suc n) (suc i) = zeros-at n i
