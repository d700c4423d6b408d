-- Document 01, 'Recording': the work buffer. Per change it holds the signal (u32), the stream length (u32) and the stream bytes.
-- Assumes nothing.
use Rattle.std.specs.Prelude.{ℕ, zero, suc, ◌+◌, ◌-◌, Bool, ◌&&◌, List, [], ◌∷◌, ◌++◌, length, take, drop, ltb, leb, eqb}
use Rattle.std.proofs.Math.Option.{Option, some, none}
use Rattle.lists.specs.Choice.{pick, bind, or_empty}
use Rattle.numbers.specs.LittleEndian.{le, unle}

pub record Item : Type 0 where
  pub signal : ℕ
  pub bytes : List ℕ

abbrev pub item : ℕ → List ℕ → Item
item g s = record { signal = g; bytes = s }

abbrev pub item_bytes : Item → List ℕ
item_bytes r = le 4 r.signal ++ (le 4 (length r.bytes) ++ r.bytes)

-- the signal and the length at the front of work bytes
abbrev pub signal_at : List ℕ → ℕ
signal_at w = unle (take 4 w)

abbrev pub size_at : List ℕ → ℕ
size_at w = unle (take 4 (drop 4 w))

-- a whole record of a number below n stands at the front
abbrev pub whole : (n : ℕ) → List ℕ → Bool
whole n w = leb 8 (length w) && (leb (size_at w) (length w - 8) && ltb (signal_at w) n)

-- the records of numbers below n into which work bytes divide, none where they do not; k only bounds the walk, and
-- the number of bytes is enough
unfoldable pub items_of : (k n : ℕ) → List ℕ → Option (List Item)
items_of zero n [] = some []
items_of zero n (x ∷ w) = none
items_of (suc k) n [] = some []
items_of (suc k) n (x ∷ w) =
    pick (whole n (x ∷ w))
    (bind (items_of k n (drop (8 + size_at (x ∷ w)) (x ∷ w)))
    (λ rs. some (item (signal_at (x ∷ w)) (take (size_at (x ∷ w)) (drop 8 (x ∷ w))) ∷ rs)))
    none

-- all records of work that divides so, else none
abbrev pub items_in : (n : ℕ) → List ℕ → List Item
items_in n w = or_empty (items_of (length w) n w)

-- the stream of a signal: its records' bytes, in order
unfoldable pub gather : (signal : ℕ) → List Item → List ℕ
gather g [] = []
gather g (r ∷ rs) = pick (eqb r.signal g) r.bytes [] ++ gather g rs
