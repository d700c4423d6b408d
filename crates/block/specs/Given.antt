-- What a block is made of, as contracts name it: the records of the work and the signals' top classes; and the passes before and after the
-- one over the signals' records.
-- Assumes nothing.
use Rattle.std.specs.Prelude.{ℕ, ◌≡◌, List, ◌++◌, map, length}
use Rattle.std.proofs.Math.Option.{some}
use Rattle.std.proofs.lemmas.List.Edits.{sets}
use Rattle.numbers.specs.LittleEndian.{le}
use Rattle.value.specs.Class.{class_number}
use Rattle.image.specs.Block.{les, times_place}
use Rattle.recording.specs.declared.SignalRecord.{SignalRecord}
use Rattle.recording.specs.Work.{Item, items_of, items_in}
use Rattle.block.specs.Passes.{clear, count, scatter, settle, Counts, Scatters, Settles}

-- the work divides into records of numbers below `signals`
abbrev pub Divides : (signals : ℕ) → List ℕ → Type 0
Divides n w = items_of (length w) n w ≡ some (items_in n w)

abbrev pub tops_of : List SignalRecord → List ℕ
tops_of rs = map (λ r. class_number r.top) rs

-- the bytes t with the head and the times
abbrev pub fronted : (size held signals : ℕ) → (times : List ℕ) → List ℕ → List ℕ
fronted size held s ts t = sets (sets t 0 (le 4 size ++ (le 4 held ++ le 4 s))) (times_place s) (les 8 ts)

-- the passes before the parts begin: head, times, and each signal's stream bytes counted
abbrev pub opened : (size held signals : ℕ) → (times : List ℕ) → List Item → List ℕ → List ℕ
opened size held s ts is t = count is (clear 0 s (fronted size held s ts t))

-- the passes after it: each record's bytes in their place, then the offsets; the data start at byte d
abbrev pub closed : (d signals : ℕ) → List Item → List ℕ → List ℕ
closed d s is t = settle 0 0 s (scatter d is t)

-- what keeps them inside t and their numbers inside 32 bits
abbrev pub Opens : (size held signals : ℕ) → (times : List ℕ) → List Item → List ℕ → Type 0
Opens size held s ts is t = Counts is (clear 0 s (fronted size held s ts t))

abbrev pub Closes : (d signals : ℕ) → List Item → List ℕ → Type 0
Closes d s is t = Scatters d is t × Settles 0 0 s (scatter d is t)
