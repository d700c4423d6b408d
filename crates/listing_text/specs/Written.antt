-- What the code that writes a listing asks of its callers, and how it reads the entries that loading wrote.
-- Laws: proofs/EntryLaws.
-- Assumes nothing.
use Rattle.std.specs.Prelude.{ℕ, ◌≤◌, Bool, true, ◌&&◌, List, [], ◌∷◌, ◌++◌, map, length, take, drop}
use Rattle.ascii.specs.Ascii.{ascii, hexadecimal}
use Rattle.signal.specs.declared.kind.SignalEncoding.{SignalEncoding}
use Rattle.stream.specs.Entries.{Entry, entry}
use Rattle.loaded.specs.EntryBytes.{entry_of}
use Rattle.loaded.specs.Reader.{Shown, event, vector, real}
use Rattle.entry.specs.Length.{entry_length}
use Rattle.entry_answer.specs.Answer.{is_entry}
use Rattle.walk.specs.Walk.{Opened}
use Rattle.listing_text.specs.Listing.{letter_of, input_limit}

-- bytes whose image is listed
abbrev pub Taken : List ℕ → Type 0
Taken b = Opened b × (length b ≤ input_limit)

-- lent memory that no signal of such an image exceeds: indices and bytes of its kept entries, and the symbols of one of them
abbrev pub Enough : (index bytes symbols : List ℕ) → Type 0
Enough i b s = (16384 ≤ length i) × (65536 ≤ length b) × (65536 ≤ length s)

-- an answered entry, whose symbols stand beside it
abbrev pub shown_words : Shown → (symbols : List ℕ) → List ℕ
shown_words (event b) s = []
shown_words (vector c b) s = ascii " " ++ map letter_of s
shown_words (real f b) s = ascii " " ++ hexadecimal 16 b

-- the entries of a signal of a kind and a class, out of their indices and their bytes, which stand one after the other
unfoldable pub entries_read : SignalEncoding → (C : ℕ) → (index bytes : List ℕ) → List Entry
entries_read k c [] b = []
entries_read k c (i ∷ is) b = entry i (entry_of k c (take (entry_length k c) b)) ∷ entries_read k c is (drop (entry_length k c) b)

-- there are bytes of an entry for each index
unfoldable pub entries_there : SignalEncoding → (C : ℕ) → (index bytes : List ℕ) → Bool
entries_there k c [] b = true
entries_there k c (i ∷ is) b = is_entry k c (take (entry_length k c) b) && entries_there k c is (drop (entry_length k c) b)
