-- The loop of a cut over the signals' records, turn by turn: each record's part begins, and its index is 0 again.
-- Assumes nothing.
use Rattle.std.specs.Prelude.{ℕ, zero, suc, ◌+◌, ◌≤◌, ◌<◌, List, [], ◌∷◌, length, drop, get_or}
use Rattle.value.specs.Class.{class_number}
use Rattle.value.specs.declared.states.States.TheVariants.{Two}
use Rattle.signal.specs.declared.kind.SignalEncoding.TheVariants.{Absent}
use Rattle.image.specs.Block.{offset_place}
use Rattle.recording.specs.declared.SignalRecord.{SignalRecord}
use Rattle.recording.specs.Memory.{record_of}
use Rattle.block.specs.Passes.{begun, next_part}
use Rattle.cut.specs.Cut.{in_tail}

-- the first n changed
unfoldable pub first_by : (SignalRecord → SignalRecord) → (n : ℕ) → List SignalRecord → List SignalRecord
first_by f zero l = l
first_by f (suc n) [] = []
first_by f (suc n) (r ∷ l) = f r ∷ first_by f n l

-- the place of the next part, and the image
pub record Place : Type 0 where
  pub place : ℕ
  pub image : List ℕ

abbrev pub placed : ℕ → List ℕ → Place
placed o i = record { place = o; image = i }

-- the turn of record r of signal g, whose part begins at place o of the data; these start at byte d of the block
abbrev pub turned : (used d g : ℕ) → SignalRecord → Place → Place
turned u d g r p =
    placed (next_part p.place g (drop u p.image)) (in_tail u (begun d p.place g (class_number r.top)) p.image)

-- n turns
unfoldable pub cut_turns : (used d n : ℕ) → List SignalRecord → List ℕ → Place
cut_turns u d zero rs i = placed 0 i
cut_turns u d (suc n) rs i = turned u d n (get_or rs n (record_of Absent 0 Two 0)) (cut_turns u d n rs i)

-- what keeps a turn inside the image and its numbers inside 32 bits
pub record TurnFits (used d o g : ℕ) (image : List ℕ) : Type 0 where
  pub lent : used ≤ length image
  pub slot : offset_place g + 4 ≤ d
  pub room : d + next_part o g (drop used image) ≤ length (drop used image)
  pub small : next_part o g (drop used image) < 4294967296

pub record TurnsFit (used d n : ℕ) (rs : List SignalRecord) (image : List ℕ) : Type 0 where
  pub few : n ≤ length rs
  pub each : (i : ℕ) → i < n → TurnFits used d (cut_turns used d i rs image).place i (cut_turns used d i rs image).image
