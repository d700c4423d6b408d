-- From the inner call's equation to that of the call on numbers, for the calls on images; and that what a caller reads is what was answered.
-- A content is read back where a real's f64 is that of its bits, as in every answer of the cursor and of an entry.
-- Assumes nothing.
use Prim.Native.Nat.{ℕ}
use mathlib.Core.Path.{◌≡◌, refl, ap}
use mathlib.Core.List.{List}
use mathlib.Core.Option.{Option, some, none}
use lib.ListN.{length, get_or}
use lib.Seq.{sets}
use lib.Dec.{ltb}
use Rattle.lists.specs.Choice.{pick}
use Rattle.lists.proofs.ChoiceLaws.{pick-either}
use Rattle.signal.specs.declared.kind.SignalEncoding.{SignalEncoding}
use Rattle.signal.specs.Kind.{width_of}
use Rattle.signal.specs.Content.{Content, symbols_of}
use Rattle.signal.specs.Content as content
use Rattle.stream.specs.Entries.{Entry}
use Rattle.image.specs.Image.{Image}
use Rattle.codec.specs.Parse.{parse}
use Rattle.loaded.specs.Reader.{LoadReply, LoadAfter, load_after, loaded, TableReply, TableAfter, table_after, counted, shown_as}
use Rattle.loaded.specs.Reader.{CursorReply, CursorAfter, cursor_after, unknown_signal, entry_at, pointed, cursor_in, cursor_of}
use Rattle.loaded.specs.Opener.{kind_at}
use Rattle.loaded.specs.Loading.{loads}
use Rattle.loaded.specs.EntryBytes.{entry_of}
use Rattle.loaded.specs.Reader as read
use Rattle.entry_answer.specs.Answer.{EntryReply, EntryAfter, entry_after, is_entry, content_after, entry_value_of}
use Rattle.joined.specs.Join.{JoinReply, refuse, joined, JoinAfter, join_after}
use Rattle.interface_answers.specs.declared.images.LoadNumbers.{LoadNumbers}
use Rattle.interface_answers.specs.declared.images.TableNumbers.{TableNumbers}
use Rattle.interface_answers.specs.declared.images.JoinNumbers.{JoinNumbers}
use Rattle.interface_answers.specs.declared.images.CursorNumbers.{CursorNumbers}
use Rattle.interface_answers.specs.declared.images.EntryNumbers.{EntryNumbers}
use Rattle.interface_answers.specs.Answered.{load_numbers_of, read_load, load_told, load_told_of, table_numbers_of, read_table, table_told, table_told_of, join_numbers_of, read_join}
use Rattle.interface_answers.specs.Answered.{join_told, join_told_of, content_of, read_content, cursor_numbers_of, read_cursor, cursor_told, cursor_told_of}
use Rattle.interface_answers.specs.Answered.{entry_numbers_of, read_entry, entry_told, entry_told_of}

pub load_told_lem : (n : LoadNumbers) (r : LoadReply) (index bytes : List ℕ) (a : LoadAfter) → n ≡ load_numbers_of r → load_after r index bytes ≡ a → load_told n index bytes ≡ load_told_of a
load_told_lem n r index bytes a h e = rw h (ap load_told_of e)

pub table-told : (n : TableNumbers) (r : TableReply) (times : List ℕ) (a : TableAfter) → n ≡ table_numbers_of r → table_after r times ≡ a → table_told n times ≡ table_told_of a
table-told n r times a h e = rw h (ap table_told_of e)

pub cursor_told_lem : (n : CursorNumbers) (r : CursorReply) (symbols : List ℕ) (a : CursorAfter) → n ≡ cursor_numbers_of r → cursor_after r symbols ≡ a → cursor_told n symbols ≡ cursor_told_of a
cursor_told_lem n r symbols a h e = rw h (ap cursor_told_of e)

pub entry-told : (n : EntryNumbers) (r : EntryReply) (symbols : List ℕ) (a : EntryAfter) → n ≡ entry_numbers_of r → entry_after r symbols ≡ a → entry_told n symbols ≡ entry_told_of a
entry-told n r symbols a h e = rw h (ap entry_told_of e)

pub join-told : (n : JoinNumbers) (r : JoinReply) (out : List ℕ) (a : JoinAfter) → n ≡ join_numbers_of r → join_after r out ≡ a → join_told n out ≡ join_told_of a
join-told n r out a h e = rw h (ap join_told_of e)

-- ---- what a caller reads is what was answered

pub load-back : (r : LoadReply) → read_load (load_numbers_of r) ≡ r
load-back (read.LoadReply.refuse n) = refl
load-back (loaded n c) = refl

pub table-back : (r : TableReply) → read_table (table_numbers_of r) ≡ r
table-back (read.TableReply.refuse n) = refl
table-back (counted n) = refl

pub join-back : (r : JoinReply) → read_join (join_numbers_of r) ≡ r
join-back (refuse n) = refl
join-back (joined n) = refl

content-back : (a : Content) → read_content (content_of (shown_as a)) ≡ shown_as a
content-back content.happened = refl
content-back (content.symbols s) = refl
content-back (content.bits b) = refl

abbrev CursorBack : CursorAfter → Type 0
CursorBack a = read_cursor (cursor_numbers_of a.reply) ≡ a.reply

abbrev EntryBack : EntryAfter → Type 0
EntryBack a = read_entry (entry_numbers_of a.reply) ≡ a.reply

pointed-back : (times : List ℕ) (found : Option (ℕ × Entry)) (out : List ℕ) → CursorBack (pointed times found out)
pointed-back times none out = refl
pointed-back times (some q) out = ap (read.CursorReply.found q.0 (get_or times q.1.index 0)) (content-back q.1.content)

cursor-back-in : (x : Option Image) (signal t : ℕ) (out : List ℕ) → CursorBack (read.cursor_from x signal t out)
unfolding cursor_in
cursor-back-in none signal t out = refl
cursor-back-in (some x) signal t out =
    let l = loads signal x.blocks in
    let inside = pointed l.times (entry_at l t) out in
    let narrow = ltb (length out) (width_of (kind_at x signal)) in
    pick-either CursorBack (unknown_signal x signal) (cursor_after (read.CursorReply.refuse 4) out) (pick narrow (cursor_after (read.CursorReply.refuse 9) out) inside) refl
    (pick-either CursorBack narrow (cursor_after (read.CursorReply.refuse 9) out) inside refl (pointed-back l.times (entry_at l t) out))

pub cursor-back : (image : List ℕ) (signal t : ℕ) (out : List ℕ) → CursorBack (cursor_of image signal t out)
cursor-back image signal t out = cursor-back-in (parse image) signal t out

pub entry-back : (k : SignalEncoding) (c : ℕ) (bytes out : List ℕ) → EntryBack (entry_value_of k c bytes out)
unfolding entry_value_of
entry-back k c bytes out =
    let a = entry_of k c bytes in
    pick-either EntryBack (ltb (length out) (width_of k)) (entry_after (EntryReply.refuse 9) out) (content_after (is_entry k c bytes) a out) refl
    (pick-either EntryBack (is_entry k c bytes) (entry_after (EntryReply.shown (shown_as a)) (sets out 0 (symbols_of a))) (entry_after EntryReply.noEntry out)
    (ap EntryReply.shown (content-back a)) refl)
