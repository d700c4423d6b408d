-- The change that was kept last: document 01, 'Loaded signal'. A change that repeats its content is dropped.
-- Law (proofs/KeptLaws): it repeats the last of the kept entries as `repeats_last` says.
-- Assumes nothing.
use Rattle.std.specs.Prelude as std
use Rattle.std.specs.Prelude.{ℕ, Bool, false, List, [], ◌∷◌}
use Rattle.std.proofs.Math.Option.{Option, some, none}
use Rattle.signal.specs.declared.kind.SignalEncoding.{SignalEncoding}
use Rattle.signal.specs.Content.{Content}
use Rattle.stream.specs.Entries.{Entry, repeats}
use Rattle.entry.specs.Read.{content_read, Reads}
use Rattle.entry.specs.declared.read.PlacedChange.{PlacedChange}

-- a content repeats that of the last kept entry
abbrev pub repeats_kept : Option Content → Content → Bool
repeats_kept none c = false
repeats_kept (some a) c = repeats a c

-- the content of the last of these entries
abbrev pub last_content : List Entry → Option Content
last_content [] = none
last_content (e ∷ []) = some e.content
last_content (e ∷ f ∷ es) = last_content (f ∷ es)

-- ---- what the code holds of it: a change by its place in the image

abbrev pub kept_content : SignalEncoding → (image : List ℕ) → std.Option PlacedChange → Option Content
kept_content k b std.None = none
kept_content k b (std.Some c) = some (content_read k b c.value c.next)

-- reading answered it
abbrev pub KeptReads : SignalEncoding → (image : List ℕ) → std.Option PlacedChange → Type 0
KeptReads k b std.None = Unit {0}
KeptReads k b (std.Some c) = Reads k b c.value c.next
