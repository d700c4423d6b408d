-- Where a block's streams stand: their lengths, by signal, from the offsets, and back. A signal has no bytes in the data (none), or its
-- class byte and a stream of m bytes (some m).
-- Laws (proofs/LayoutLaws): offsets and lengths are inverse.
-- Assumes nothing.
use Rattle.std.specs.Prelude.{ℕ, zero, suc, ◌+◌, ◌-◌, List, [], ◌∷◌, length, leb, ltb, eqb}
use Rattle.std.proofs.Math.Option.{Option, some, none}
use Rattle.lists.specs.Choice.{pick}
use Rattle.image.specs.Block.{Part, block_size}
use Rattle.form.specs.Form.{Form, via, pair, repeat, uint}

abbrev pub length_in : Option (Part (List ℕ)) → Option ℕ
length_in none = none
length_in (some p) = some (length p.stream)

unfoldable pub lengths_in : List (Option (Part (List ℕ))) → List (Option ℕ)
lengths_in [] = []
lengths_in (p ∷ ps) = length_in p ∷ lengths_in ps

-- the offsets of streams from a on
unfoldable pub offsets : (a : ℕ) → List (Option ℕ) → List ℕ
offsets a [] = []
offsets a (none ∷ l) = 0 ∷ offsets a l
offsets a (some m ∷ l) = suc a ∷ offsets (a + suc m) l

unfoldable pub data_size : List (Option ℕ) → ℕ
data_size [] = 0
data_size (none ∷ l) = data_size l
data_size (some m ∷ l) = suc m + data_size l

-- offsets read from the last to the first: where the first stream begins, and the lengths
pub data Laid : Type 0 where
  ill : Laid
  laid : ℕ → List (Option ℕ) → Laid

abbrev pub without : Laid → Laid
without ill = ill
without (laid e l) = laid e (none ∷ l)

-- a stream from a on, up to where the next one begins
abbrev pub starting : ℕ → Laid → Laid
starting a ill = ill
starting a (laid e l) = pick (ltb a e) (laid a (some (e - suc a) ∷ l)) ill

-- n bytes of data
unfoldable pub lengths : (n : ℕ) → List ℕ → Laid
lengths n [] = laid n []
lengths n (zero ∷ os) = without (lengths n os)
lengths n (suc a ∷ os) = starting a (lengths n os)

-- what a block's front says: how many times, and the streams' lengths
pub record Layout : Type 0 where
  pub count : ℕ
  pub lens : List (Option ℕ)

abbrev pub layout : ℕ → List (Option ℕ) → Layout
layout c l = record { count = c; lens = l }

-- a block's bytes, times T, S, S offsets
abbrev pub Front : Type 0
Front = ℕ × (ℕ × (ℕ × List ℕ))

abbrev pub front_of : (signals : ℕ) → Layout → Front
front_of s l = (block_size s l.count (data_size l.lens), (l.count, (s, offsets 0 l.lens)))

-- the first stream begins at 0
abbrev pub from_zero : (times : ℕ) → Laid → Option Layout
from_zero t ill = none
from_zero t (laid a l) = pick (eqb a 0) (some (layout t l)) none

abbrev pub layout_from : (signals : ℕ) → Front → Option Layout
layout_from s r =
    pick (eqb s r.1.1.0)
    (pick (leb (block_size s r.1.0 0) r.0) (from_zero r.1.0 (lengths (r.0 - block_size s r.1.0 0) r.1.1.1)) none)
    none

unfoldable pub layout_form : (signals : ℕ) → Form Layout
layout_form s = via (pair (uint 4) (pair (uint 4) (pair (uint 4) (repeat s (uint 4))))) (layout_from s) (front_of s)
