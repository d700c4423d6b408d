-- What measuring adds up: the bytes of all streams, and the signals that have some (proofs/MeasureLaws: both make `data_length`).
-- Assumes nothing.
use Rattle.std.specs.Prelude.{ℕ, zero, suc, ◌+◌, Bool, List, [], ◌∷◌, length}
use Rattle.std.specs.Prelude as code
use Rattle.std.proofs.Math.Option.{Option, some, none}
use Rattle.lists.specs.Choice.{pick}
use Rattle.recording.specs.Work.{Item, gather}
use Rattle.work.specs.declared.Scanned.{Scanned}

-- the bytes of all streams
unfoldable pub total : List Item → ℕ
total [] = 0
total (r ∷ rs) = length r.bytes + total rs

-- f g + f (g + 1) + .., n of them
unfoldable pub sum : (f : ℕ → ℕ) (g n : ℕ) → ℕ
sum f g zero = 0
sum f g (suc n) = f g + sum f (suc g) n

abbrev pub sign : ℕ → ℕ
sign zero = 0
sign (suc n) = 1

-- of the signals g, g + 1, .., n of them, how many have stream bytes
unfoldable pub changed : (g n : ℕ) → List Item → ℕ
changed g n is = sum (λ s. sign (length (gather s is))) g n

-- of the 65,536 signals from base on, those not in the set m (of distances from base), how many have stream bytes
unfoldable pub unmarked : (m : ℕ → Bool) (base : ℕ) → List Item → ℕ
unmarked m base is = sum (λ i. pick (m i) 0 (sign (length (gather (base + i) is)))) 0 65536

-- what one pass finds of work that divides into records, and of work that does not
abbrev pub sums : (bytes signals : ℕ) → code.Option Scanned
sums b n = code.Some (record { bytes = b; signals = n })

abbrev pub scanned : (base : ℕ) → Option (List Item) → code.Option Scanned
scanned base none = code.None
scanned base (some is) = sums (total is) (changed base 65536 is)
