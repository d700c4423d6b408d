-- How long the data and the bytes of the block of some work are.
-- Assumes nothing.
use Prim.Native.Nat.{ℕ, suc}
use mathlib.Core.Path.{◌≡◌, refl, ap, ◌∙◌}
use mathlib.Core.List.{List, [], ◌∷◌}
use lib.ListN.{length, length-append}
use Rattle.value.specs.Class.{class_number}
use Rattle.image.specs.Block.{part_bytes, data_of, block, block_bytes, block_size}
use Rattle.image.proofs.SizeLaws.{block_size_lem}
use Rattle.recording.specs.declared.SignalRecord.{SignalRecord}
use Rattle.recording.specs.Work.{Item, gather}
use Rattle.recording.specs.Step.{part_from, parts_from}
use Rattle.work.specs.Measure.{part_length, data_length}

length_part : (top : ℕ) (s : List ℕ) → length (part_bytes (part_from top s)) ≡ part_length (length s)
length_part top [] = refl
length_part top (b ∷ s) = refl

data-from : (g : ℕ) (rs : List SignalRecord) (is : List Item) → length (data_of (parts_from g rs is)) ≡ data_length g (length rs) is
unfolding parts_from data_of data_length
data-from g [] is = refl
data-from g (r ∷ rs) is =
    let p = part_from (class_number r.top) (gather g is) in
    length-append (part_bytes p) (data_of (parts_from (suc g) rs is))
    ∙ rw (length_part (class_number r.top) (gather g is), data-from (suc g) rs is) refl

pub length-data : (rs : List SignalRecord) (is : List Item) → length (data_of (parts_from 0 rs is)) ≡ data_length 0 (length rs) is
length-data rs is = data-from 0 rs is

pub length-parts : (g : ℕ) (rs : List SignalRecord) (is : List Item) → length (parts_from g rs is) ≡ length rs
unfolding parts_from
length-parts g [] is = refl
length-parts g (r ∷ rs) is = ap suc (length-parts (suc g) rs is)

pub length-block : (ts : List ℕ) (rs : List SignalRecord) (is : List Item)
    → length (block_bytes (block ts (parts_from 0 rs is))) ≡ block_size (length rs) (length ts) (data_length 0 (length rs) is)
length-block ts rs is = block_size_lem (block ts (parts_from 0 rs is)) ∙ rw (length-parts 0 rs is, length-data rs is) refl
