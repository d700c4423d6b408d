-- What loading has put out: how many entries are kept, how many bytes they took, the content of the last one, and the outputs. And what one
-- change more makes of it, and a list of them.
-- Laws (proofs/OutputLaws): a list of changes makes of it what `pushed` makes of the kept entries.
-- Assumes nothing.
use Rattle.std.specs.Prelude.{ℕ, suc, ◌+◌, ◌≤◌, ◌≡◌, Bool, true, false, List, [], ◌∷◌, map, length, set, None}
use Rattle.std.proofs.Math.Option.{Option, some}
use Rattle.std.proofs.lemmas.List.Edits.{sets}
use Rattle.lists.specs.Choice.{pick}
use Rattle.signal.specs.declared.kind.SignalEncoding.{SignalEncoding}
use Rattle.signal.specs.Content.{Content}
use Rattle.stream.specs.Entries.{Entry}
use Rattle.loaded.specs.EntryBytes.{entry_bytes, entries_bytes}
use Rattle.loaded.specs.Reader.{index_in}
use Rattle.entry_same.specs.Kept.{repeats_kept, last_content, kept_content}
use Rattle.loader_block.specs.declared.Loading.{Loading}

pub record Output : Type 0 where
  pub count : ℕ
  pub used : ℕ
  pub last : Option Content
  pub index : List ℕ
  pub bytes : List ℕ

abbrev pub output : (count used : ℕ) → Option Content → (index bytes : List ℕ) → Output
output n u l i b = record { count = n; used = u; last = l; index = i; bytes = b }

-- ---- one change more

-- kept: counted, and its bytes counted; where outputs are written, its index and its bytes stored
abbrev pub kept : SignalEncoding → (C : ℕ) → (write : Bool) → Output → (index : ℕ) → Content → Output
kept k c false o i a = output (suc o.count) (o.used + length (entry_bytes k c a)) (some a) o.index o.bytes
kept k c true o i a =
    output (suc o.count) (o.used + length (entry_bytes k c a)) (some a) (set o.index o.count i) (sets o.bytes o.used (entry_bytes k c a))

-- a repeat is dropped
unfoldable pub taken : SignalEncoding → (C : ℕ) → (write : Bool) → Output → (index : ℕ) → Content → Output
taken k c w o i a = pick (repeats_kept o.last a) o (kept k c w o i a)

unfoldable pub all_taken : SignalEncoding → (C : ℕ) → (write : Bool) → Output → List Entry → Output
all_taken k c w o [] = o
all_taken k c w o (e ∷ es) = all_taken k c w (taken k c w o e.index e.content) es

-- an output is within the lent memory, if that is written
abbrev pub Room : (write : Bool) → Output → (index bytes : ℕ) → Type 0
Room w o i b = w ≡ true → (o.count ≤ i) × (o.used ≤ b)

-- ---- what the code holds of it: the last kept change by its place in the image

abbrev pub nothing_kept : Loading
nothing_kept = record { count = 0; used = 0; last = None }

abbrev pub output_as : SignalEncoding → (image : List ℕ) → Loading → (index bytes : List ℕ) → Output
output_as k b s i o = output s.count s.used (kept_content k b s.last) i o

-- ---- all of it

-- the outputs, lent as index and bytes, with these entries kept
abbrev pub holding : SignalEncoding → (C : ℕ) → (write : Bool) → (index bytes : List ℕ) → List Entry → Output
holding k c false i b es = output (length es) (length (entries_bytes k c es)) (last_content es) i b
holding k c true i b es = output (length es) (length (entries_bytes k c es)) (last_content es) (sets i 0 (map index_in es)) (sets b 0 (entries_bytes k c es))
