-- A cut in the image: the size of its block before the first byte is written, and the block's passes in the part of the image that follows
-- the used bytes.
-- Assumes nothing.
use Rattle.std.specs.Prelude.{Result, Ok, Err, ℕ, ◌+◌, ◌-◌, ◌≤◌, ◌<◌, List, ◌++◌, length, take, drop, get_or, set, ltb}
use Rattle.std.proofs.Math.Option.{Option, some, none}
use Rattle.std.proofs.lemmas.List.Edits.{sets}
use Rattle.lists.specs.Choice.{pick}
use Rattle.numbers.specs.LittleEndian.{le}
use Rattle.image.specs.Block.{block_size, front_size}
use Rattle.refusal.specs.declared.Refusal.{Refusal}
use Rattle.refusal.specs.declared.Refusal.TheVariants.{Altered, ImageFull}
use Rattle.recording.specs.declared.Encoder.{Encoder}
use Rattle.recording.specs.Work.{Item, items_of, items_in}
use Rattle.work.specs.Measure.{data_length}
use Rattle.block.specs.Given.{Divides, opened, closed, Opens, Closes}

-- the bytes of the block to cut, or why it cannot be cut; `image` is how many bytes the image has
abbrev pub size_of : Encoder → (image : ℕ) → Option (List Item) → Result ℕ Refusal
size_of s image none = Err Altered
size_of s image (some is) =
    let n = block_size s.signals s.held (data_length 0 s.signals is) in
    pick (ltb (image - s.image) n) (Err ImageFull) (Ok n)

unfoldable pub sized : Encoder → (work : List ℕ) → (image : ℕ) → Result ℕ Refusal
sized s w image = size_of s image (items_of s.work s.signals (take s.work w))

-- ---- the image

-- what follows the used bytes of an image, changed
abbrev pub in_tail : (used : ℕ) → (List ℕ → List ℕ) → List ℕ → List ℕ
in_tail u f i = take u i ++ f (drop u i)

-- the records of the used work, and where the data begin, from the block's first byte on
abbrev pub used_items : Encoder → (work : List ℕ) → List Item
used_items s w = items_in s.signals (take s.work w)

abbrev pub data_start : Encoder → ℕ
data_start s = front_size s.signals s.held

-- up to the pass over the signals' records
abbrev pub cut_opened : Encoder → (size : ℕ) → (times work image : List ℕ) → List ℕ
cut_opened s n t w = in_tail s.image (opened n s.held s.signals (take s.held t) (used_items s w))

-- from there on; then N and total
abbrev pub cut_closed : Encoder → (size : ℕ) → (work image : List ℕ) → List ℕ
cut_closed s n w i =
    sets (in_tail s.image (closed (data_start s) s.signals (used_items s w)) i) 8 (le 4 (s.blocks + 1) ++ le 4 (s.image + n))

-- the next table begins with the old last time
abbrev pub next_times : Encoder → (times : List ℕ) → List ℕ
next_times s t = set t 0 (get_or t (s.held - 1) 0)

-- ---- what keeps them inside the lent memory and their numbers inside 32 bits

pub record CutOpens (s : Encoder) (size : ℕ) (times work image : List ℕ) : Type 0 where
  pub room : s.image + data_start s ≤ length image
  pub short : length image ≤ 1073741824
  pub held : s.held ≤ length times
  pub worked : s.work ≤ length work
  pub divides : Divides s.signals (take s.work work)
  pub opens : Opens size s.held s.signals (take s.held times) (used_items s work) (drop s.image image)

pub record CutCloses (s : Encoder) (size : ℕ) (times work image : List ℕ) : Type 0 where
  pub room : s.image + data_start s ≤ length image
  pub short : length image ≤ 1073741824
  pub blocks : s.blocks ≤ s.image
  pub total : s.image + size ≤ length image
  pub some-held : 0 < s.held
  pub held : s.held ≤ length times
  pub worked : s.work ≤ length work
  pub divides : Divides s.signals (take s.work work)
  pub closes : Closes (data_start s) s.signals (used_items s work) (drop s.image image)
