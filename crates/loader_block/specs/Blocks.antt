-- What a block of an image gives to loading a signal, its changes with their indices in the combined table and its top class, and what all
-- blocks give.
-- Assumes nothing.
use Rattle.std.specs.Prelude.{ℕ, ◌≤◌, Bool, List}
use Rattle.stream.specs.Entries.{Entry}
use Rattle.image.specs.Image.{Image}
use Rattle.loaded.specs.Opener.{kind_at, block_at, part_at}
use Rattle.loaded.specs.Loading.{entries_in, top_in, moved, loads}
use Rattle.walk.specs.Walk.{image_in}
use Rattle.loader_block.specs.Output.{Output, all_taken, Room, output_as, holding}
use Rattle.loader_block.specs.declared.Loading.{Loading}

-- the block's times begin at index `base` of the combined table
abbrev pub changes_in : Image → (block signal base : ℕ) → List Entry
changes_in x n g t = moved t (entries_in (part_at (block_at x n) g))

abbrev pub top_of : Image → (block signal : ℕ) → ℕ
top_of x n g = top_in (part_at (block_at x n) g)

-- ---- of the image that bytes are

abbrev pub output_in : (image : List ℕ) → (signal : ℕ) → Loading → (index bytes : List ℕ) → Output
output_in b g s i o = output_as (kind_at (image_in b) g) b s i o

-- what a block's changes make of an output
abbrev pub block_taken : (image : List ℕ) → (block signal base C : ℕ) → (write : Bool) → Output → Output
block_taken b n g t c w o = all_taken (kind_at (image_in b) g) c w o (changes_in (image_in b) n g t)

-- the class of a block's changes is at most C, and what they make of an output is within the lent memory
abbrev pub BlockRoom : (image : List ℕ) → (block signal base C : ℕ) → (write : Bool) → Output → (index bytes : ℕ) → Type 0
BlockRoom b n g t c w o i m = (top_of (image_in b) n g ≤ c) × Room w (block_taken b n g t c w o) i m

-- the outputs with all entries that are kept
abbrev pub all_loaded : (image : List ℕ) → (signal C : ℕ) → (write : Bool) → (index bytes : List ℕ) → Output
all_loaded b g c w i o = holding (kind_at (image_in b) g) c w i o (loads g (image_in b).blocks).entries
