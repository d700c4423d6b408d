-- The head of an image without blocks: its four numbers, then the kinds, one record's after the other.
-- Assumes nothing.
use Rattle.std.specs.Prelude.{ℕ, zero, suc, ◌+◌, ◌≤◌, ◌<◌, List, ◌++◌, length, get_or}
use Rattle.std.proofs.lemmas.List.Edits.{sets}
use Rattle.numbers.specs.LittleEndian.{le}
use Rattle.value.specs.declared.states.States.TheVariants.{Two}
use Rattle.signal.specs.declared.kind.SignalEncoding.TheVariants.{Absent}
use Rattle.image.specs.Head.{kind_number, head_size, kind_place}
use Rattle.recording.specs.declared.SignalRecord.{SignalRecord}
use Rattle.recording.specs.Memory.{record_of}

-- S, B, N = 0 and the total, which is the head's size
abbrev pub head_numbers : (limit signals : ℕ) → List ℕ → List ℕ
head_numbers l s i = sets i 0 (le 4 s ++ (le 4 l ++ (le 4 0 ++ le 4 (head_size s))))

-- the kind of the record of signal g
abbrev pub kind_put : (g : ℕ) → SignalRecord → List ℕ → List ℕ
kind_put g r i = sets i (kind_place g) (le 4 (kind_number r.kind))

-- the kinds of the first n records, the image after n turns of a loop over them
unfoldable pub kinds_put : (n : ℕ) → List SignalRecord → List ℕ → List ℕ
kinds_put zero rs i = i
kinds_put (suc n) rs i = kind_put n (get_or rs n (record_of Absent 0 Two 0)) (kinds_put n rs i)

-- what keeps the turns inside the image
pub record KindsFit (n : ℕ) (rs : List SignalRecord) (image : List ℕ) : Type 0 where
  pub few : n ≤ length rs
  pub each : (g : ℕ) → g < n → kind_place g + 4 ≤ length (kinds_put g rs image)
