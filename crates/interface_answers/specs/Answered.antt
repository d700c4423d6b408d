-- How the answers of the calls on images cross as numbers, and how a caller reads them (`read..`). In each, `answer` 0 is a refusal and
-- `value` then its number; the other answers have numbers that the recorder's calls do not use.
-- Law (proofs/AnswerLaws): what a caller reads is what was answered.
-- Assumes nothing.
use Rattle.std.specs.Prelude.{ℕ, ◌≡◌, List, eqb, take, drop}
use Rattle.std.specs.Float.{binary64}
use Rattle.std.specs.Float.Ieee.{of_bits}
use Rattle.lists.specs.Choice.{pick}
use Rattle.loaded.specs.Reader.{LoadReply, loaded, LoadAfter, TableReply, counted, TableAfter, Shown, event, vector, real, CursorReply, nothing, found, CursorAfter}
use Rattle.loaded.specs.Reader as read
use Rattle.entry_answer.specs.Answer.{EntryReply, noEntry, shown, EntryAfter}
use Rattle.entry_answer.specs.Answer as entry
use Rattle.joined.specs.Join.{JoinReply, joined, JoinAfter}
use Rattle.joined.specs.Join as join
use Rattle.walk.specs.Walk.{image_in, stream_place}
use Rattle.interface_answers.specs.declared.images.LoadNumbers.{LoadNumbers}
use Rattle.interface_answers.specs.declared.images.TableNumbers.{TableNumbers}
use Rattle.interface_answers.specs.declared.images.JoinNumbers.{JoinNumbers}
use Rattle.interface_answers.specs.declared.images.PartNumbers.{PartNumbers}
use Rattle.interface_answers.specs.declared.images.ContentNumbers.{ContentNumbers}
use Rattle.interface_answers.specs.declared.images.CursorNumbers.{CursorNumbers}
use Rattle.interface_answers.specs.declared.images.EntryNumbers.{EntryNumbers}

-- ---- loading: the number of kept entries and the signal's class

abbrev pub load_numbers_of : LoadReply → LoadNumbers
load_numbers_of (read.LoadReply.refuse n) = record { answer = 0; value = n; class = 0 }
load_numbers_of (loaded n c) = record { answer = 8; value = n; class = c }

abbrev pub read_load : LoadNumbers → LoadReply
read_load n = pick (eqb n.answer 8) (loaded n.value n.class) (read.LoadReply.refuse n.value)

pub record LoadTold : Type 0 where
  pub numbers : LoadNumbers
  pub index : List ℕ
  pub bytes : List ℕ

abbrev pub load_told : LoadNumbers → (index bytes : List ℕ) → LoadTold
load_told n i b = record { numbers = n; index = i; bytes = b }

abbrev pub load_told_of : LoadAfter → LoadTold
load_told_of a = load_told (load_numbers_of a.reply) a.index a.bytes

-- ---- the combined table: its length

abbrev pub table_numbers_of : TableReply → TableNumbers
table_numbers_of (read.TableReply.refuse n) = record { answer = 0; value = n }
table_numbers_of (counted n) = record { answer = 9; value = n }

abbrev pub read_table : TableNumbers → TableReply
read_table n = pick (eqb n.answer 9) (counted n.value) (read.TableReply.refuse n.value)

pub record TableTold : Type 0 where
  pub numbers : TableNumbers
  pub times : List ℕ

abbrev pub table_told : TableNumbers → List ℕ → TableTold
table_told n t = record { numbers = n; times = t }

abbrev pub table_told_of : TableAfter → TableTold
table_told_of a = table_told (table_numbers_of a.reply) a.times

-- ---- a join: its total

abbrev pub join_numbers_of : JoinReply → JoinNumbers
join_numbers_of (join.JoinReply.refuse n) = record { answer = 0; value = n }
join_numbers_of (joined n) = record { answer = 14; value = n }

abbrev pub read_join : JoinNumbers → JoinReply
read_join n = pick (eqb n.answer 14) (joined n.value) (join.JoinReply.refuse n.value)

pub record JoinTold : Type 0 where
  pub numbers : JoinNumbers
  pub out : List ℕ

abbrev pub join_told : JoinNumbers → List ℕ → JoinTold
join_told n o = record { numbers = n; out = o }

abbrev pub join_told_of : JoinAfter → JoinTold
join_told_of a = join_told (join_numbers_of a.reply) a.out

-- ---- the stream of a signal: a part of the image

abbrev pub part_of : PartNumbers → (image : List ℕ) → List ℕ
part_of p b = take p.length (drop p.from b)

-- it begins after its class byte; at 0 where there is no stream
abbrev pub PlaceOf : PartNumbers → (image : List ℕ) → (block signal : ℕ) → Type 0
PlaceOf p b n g = p.from ≡ stream_place (image_in b) n g

-- ---- a content: an event is 0, a vector 1 with its own class, a real 2 with its bits, which fix its f64

abbrev pub content : (form class bits : ℕ) → ContentNumbers
content f c b = record { form = f; class = c; bits = b }

abbrev pub content_of : Shown → ContentNumbers
content_of (event b) = content 0 0 b
content_of (vector c b) = content 1 c b
content_of (real f b) = content 2 0 b

abbrev pub read_content : ContentNumbers → Shown
read_content n =
    pick (eqb n.form 1) (vector n.class n.bits)
    (pick (eqb n.form 2) (real (of_bits binary64 n.bits) n.bits)
    (event n.bits))

-- ---- the cursor: the entry's number, time and content

abbrev pub cursor_numbers_of : CursorReply → CursorNumbers
cursor_numbers_of (read.CursorReply.refuse n) = record { answer = 0; value = n; time = 0; content = content 0 0 0 }
cursor_numbers_of (found n t s) = record { answer = 10; value = n; time = t; content = content_of s }
cursor_numbers_of nothing = record { answer = 11; value = 0; time = 0; content = content 0 0 0 }

abbrev pub read_cursor : CursorNumbers → CursorReply
read_cursor n =
    pick (eqb n.answer 10) (found n.value n.time (read_content n.content))
    (pick (eqb n.answer 11) nothing
    (read.CursorReply.refuse n.value))

pub record CursorTold : Type 0 where
  pub numbers : CursorNumbers
  pub symbols : List ℕ

abbrev pub cursor_told : CursorNumbers → List ℕ → CursorTold
cursor_told n s = record { numbers = n; symbols = s }

abbrev pub cursor_told_of : CursorAfter → CursorTold
cursor_told_of a = cursor_told (cursor_numbers_of a.reply) a.symbols

-- ---- one entry's bytes

abbrev pub entry_numbers_of : EntryReply → EntryNumbers
entry_numbers_of (entry.EntryReply.refuse n) = record { answer = 0; value = n; content = content 0 0 0 }
entry_numbers_of (shown s) = record { answer = 12; value = 0; content = content_of s }
entry_numbers_of noEntry = record { answer = 13; value = 0; content = content 0 0 0 }

abbrev pub read_entry : EntryNumbers → EntryReply
read_entry n =
    pick (eqb n.answer 12) (shown (read_content n.content))
    (pick (eqb n.answer 13) noEntry
    (entry.EntryReply.refuse n.value))

pub record EntryTold : Type 0 where
  pub numbers : EntryNumbers
  pub symbols : List ℕ

abbrev pub entry_told : EntryNumbers → List ℕ → EntryTold
entry_told n s = record { numbers = n; symbols = s }

abbrev pub entry_told_of : EntryAfter → EntryTold
entry_told_of a = entry_told (entry_numbers_of a.reply) a.symbols
