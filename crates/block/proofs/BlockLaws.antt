-- The theorem of the passes, in the terms of the block writer's contracts: of work that divides, and the first of the times.
-- Assumes nothing.
use Prim.Native.Nat.{ℕ, ◌+◌, ◌*◌, ◌≤◌, ◌<◌}
use mathlib.Core.Path.{◌≡◌}
use mathlib.Core.List.{List}
use lib.ListN.{length, take}
use lib.Seq.{sets, length-take-le}
use Rattle.image.specs.Block.{block, block_bytes, block_size}
use Rattle.recording.specs.declared.SignalRecord.{SignalRecord}
use Rattle.recording.specs.Work.{Item, items_in}
use Rattle.recording.specs.Step.{parts_from}
use Rattle.work.specs.Measure.{data_length}
use Rattle.work.proofs.WorkLaws.{Below, items-below}
use Rattle.block.specs.Given.{Divides, tops_of, fronted}
use Rattle.block.proofs.Passes.{Writes, passes}

written_of : (rs : List SignalRecord) (is : List Item) (ts t : List ℕ) (s held size : ℕ) → length rs ≡ s → length ts ≡ held → Below s is
    → size ≡ block_size s held (data_length 0 s is) → size ≤ length t → size < 4294967296
    → Writes (12 + 4 * s + 8 * held) s (tops_of rs) is (fronted size held s ts t) (sets t 0 (block_bytes (block ts (parts_from 0 rs is))))
written_of rs is ts t s held size p q below e enough small =
    rw (e, ← p, ← q) (passes rs is ts t (rw p below) (rw (p, q, ← e) enough) (rw (p, q, ← e) small))

pub written : (rs : List SignalRecord) (ts w t : List ℕ) (s held size : ℕ) → length rs ≡ s → Divides s w → held ≤ length ts
    → size ≡ block_size s held (data_length 0 s (items_in s w)) → size ≤ length t → size < 4294967296
    → Writes (12 + 4 * s + 8 * held) s (tops_of rs) (items_in s w) (fronted size held s (take held ts) t)
    (sets t 0 (block_bytes (block (take held ts) (parts_from 0 rs (items_in s w)))))
written rs ts w t s held size n h l e enough small =
    written_of rs (items_in s w) (take held ts) t s held size n (length-take-le held ts l) (items-below (length w) s w (items_in s w) h) e enough small
