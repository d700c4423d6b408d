-- Document 01, 'Block and image': a block, and its bytes.
-- Assumes nothing.
use Rattle.std.specs.Prelude.{ℕ, suc, ◌+◌, ◌*◌, List, [], ◌∷◌, ◌++◌, length}
use Rattle.std.proofs.Math.Option.{Option, some, none}
use Rattle.numbers.specs.LittleEndian.{le}

-- what a block holds of a signal with changes: its top class and its stream, as bytes (C is List ℕ) or as what they say
pub record Part (C : Type 0) : Type 0 where
  pub top : ℕ
  pub stream : C

-- the times, and by signal number its part, none where it has no changes
pub record Block (C : Type 0) : Type 0 where
  pub times : List ℕ
  pub parts : List (Option (Part C))

abbrev pub part : {C : Type 0} → ℕ → C → Part C
part t c = record { top = t; stream = c }

abbrev pub block : {C : Type 0} → List ℕ → List (Option (Part C)) → Block C
block t p = record { times = t; parts = p }

-- numbers of w bytes, one after the other
unfoldable pub les : (w : ℕ) → List ℕ → List ℕ
les w [] = []
les w (x ∷ l) = le w x ++ les w l

-- one byte top class, then the stream
abbrev pub part_bytes : Option (Part (List ℕ)) → List ℕ
part_bytes none = []
part_bytes (some p) = p.top ∷ p.stream

-- data: for each signal with changes, by number
unfoldable pub data_of : List (Option (Part (List ℕ))) → List ℕ
data_of [] = []
data_of (p ∷ ps) = part_bytes p ++ data_of ps

-- the offset of a stream counts from the start of the data to the class byte and is kept plus one; 0 means no changes
unfoldable pub offsets_from : ℕ → List (Option (Part (List ℕ))) → List ℕ
offsets_from at [] = []
offsets_from at (none ∷ ps) = 0 ∷ offsets_from at ps
offsets_from at (some p ∷ ps) = suc at ∷ offsets_from (at + length (part_bytes (some p))) ps

-- where in a block, from its first byte on, a signal's offset stands, after three numbers, and where the times begin
abbrev pub offset_place : (signal : ℕ) → ℕ
offset_place g = 12 + 4 * g

abbrev pub times_place : (signals : ℕ) → ℕ
times_place s = 12 + 4 * s

-- how many bytes stand before the data: three numbers, an offset for each signal, the times
abbrev pub front_size : (signals times : ℕ) → ℕ
front_size s t = times_place s + 8 * t

-- how many bytes a block has: those, and the data
abbrev pub block_size : (signals times bytes : ℕ) → ℕ
block_size s t n = front_size s t + n

-- its bytes, times T, S, S offsets, T times, data
unfoldable pub block_bytes : Block (List ℕ) → List ℕ
block_bytes b =
    le 4 (block_size (length b.parts) (length b.times) (length (data_of b.parts)))
    ++ (le 4 (length b.times)
    ++ (le 4 (length b.parts)
    ++ (les 4 (offsets_from 0 b.parts)
    ++ (les 8 b.times
    ++ data_of b.parts))))
