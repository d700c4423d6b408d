-- Document 01, 'Loaded signal' and 'Turned back' (11, 4, 9): the calls that read an image. A refused call changes no lent memory.
-- Assumes nothing.
use Rattle.std.specs.Prelude.{ℕ, suc, Bool, ◌||◌, List, [], ◌∷◌, map, length, get_or, ltb, leb, Float, Result, Ok, Err}
use Rattle.std.specs.Prelude as std
use Rattle.std.proofs.Math.Option.{Option, some, none}
use Rattle.std.proofs.lemmas.List.Edits.{sets}
use Rattle.std.specs.Float.{binary64}
use Rattle.std.specs.Float.Ieee.{of_bits}
use Rattle.lists.specs.Choice.{pick}
use Rattle.value.specs.Class.{class_number, class_of_all}
use Rattle.value.specs.declared.real.Entry as declared
use Rattle.value.specs.declared.real.SignalValue.{SignalValue}
use Rattle.value.specs.declared.real.SignalValue.TheVariants as shown
use Rattle.signal.specs.Kind.{width_of, absent}
use Rattle.signal.specs.Content.{Content, happened, symbols, bits, symbols_of}
use Rattle.stream.specs.Entries.{Entry}
use Rattle.image.specs.Image.{Image}
use Rattle.codec.specs.Parse.{parse}
use Rattle.refusal.specs.declared.Refusal.{Refusal}
use Rattle.refusal.specs.Refusal.{refusal_number}
use Rattle.loaded.specs.declared.Loaded.{Loaded}
use Rattle.loaded.specs.declared.Found.{Found}
use Rattle.loaded.specs.Opener.{kind_at}
use Rattle.loaded.specs.Loading.{Load, table_from, loads, signal_class}
use Rattle.loaded.specs.EntryBytes.{entries_bytes}

-- 4: number at or above S, or absent
abbrev pub unknown_signal : Image → (signal : ℕ) → Bool
unknown_signal x g = leb (length x.kinds) g || absent (kind_at x g)

-- ---- loading: 11, 4, 9

pub data LoadReply : Type 0 where
  refuse : ℕ → LoadReply
  loaded : (count class : ℕ) → LoadReply

abbrev pub load_reply : Result Loaded Refusal → LoadReply
load_reply (Ok l) = loaded l.count (class_number l.class)
load_reply (Err r) = refuse (refusal_number r)

-- the answer, and the outputs afterwards
pub record LoadAfter : Type 0 where
  pub reply : LoadReply
  pub index : List ℕ
  pub bytes : List ℕ

abbrev pub load_after : LoadReply → (index bytes : List ℕ) → LoadAfter
load_after r i b = record { reply = r; index = i; bytes = b }

abbrev pub index_in : Entry → ℕ
index_in e = e.index

-- 9: kept entries exceed the index output, or their bytes the byte output. Nothing is written past them
unfoldable pub load_in : Image → (signal : ℕ) → (index bytes : List ℕ) → LoadAfter
load_in x g index bytes =
    let l = loads g x.blocks in
    let n = length l.entries in
    let out = entries_bytes (kind_at x g) (signal_class l) l.entries in
    pick (unknown_signal x g) (load_after (refuse 4) index bytes)
    (pick (ltb (length index) n || ltb (length bytes) (length out)) (load_after (refuse 9) index bytes)
    (load_after (loaded n (signal_class l)) (sets index 0 (map index_in l.entries)) (sets bytes 0 out)))

abbrev pub load_by : Option Image → (signal : ℕ) → (index bytes : List ℕ) → LoadAfter
load_by none g index bytes = load_after (refuse 11) index bytes
load_by (some x) g index bytes = load_in x g index bytes

-- answers the number of kept entries and C
abbrev pub load_of : (image : List ℕ) → (signal : ℕ) → (index bytes : List ℕ) → LoadAfter
load_of b g index bytes = load_by (parse b) g index bytes

-- ---- the combined table: 11, 9

pub data TableReply : Type 0 where
  refuse : ℕ → TableReply
  counted : ℕ → TableReply

abbrev pub table_reply : Result ℕ Refusal → TableReply
table_reply (Ok n) = counted n
table_reply (Err r) = refuse (refusal_number r)

pub record TableAfter : Type 0 where
  pub reply : TableReply
  pub times : List ℕ

abbrev pub table_after : TableReply → List ℕ → TableAfter
table_after r t = record { reply = r; times = t }

-- 9: the combined times exceed the table output
unfoldable pub table_in : Image → (out : List ℕ) → TableAfter
table_in x out =
    let ts = table_from [] x.blocks in
    pick (ltb (length out) (length ts)) (table_after (refuse 9) out) (table_after (counted (length ts)) (sets out 0 ts))

abbrev pub table_by : Option Image → (out : List ℕ) → TableAfter
table_by none out = table_after (refuse 11) out
table_by (some x) out = table_in x out

-- answers its length
abbrev pub table_of : (image out : List ℕ) → TableAfter
table_of b out = table_by (parse b) out

-- ---- one entry

-- an event, symbols with their class (they go into a lent buffer), or a real holding its f64; beside each the bits that the answer carries
pub data Shown : Type 0 where
  event : (bits : ℕ) → Shown
  vector : (class bits : ℕ) → Shown
  real : Float → (bits : ℕ) → Shown

abbrev pub shown_by : SignalValue → (bits : ℕ) → Shown
shown_by shown.Event b = event b
shown_by (shown.BitVec c) b = vector (class_number c) b
shown_by (shown.Real f) b = real f b

abbrev pub entry_reply : declared.Entry → Shown
entry_reply e = shown_by e.value e.bits

-- the class is the value's own; the bits are 0 but for a real. Of a NaN's pattern the f64 is the logic's one NaN: its payload is not
-- promised; the bits are exact
abbrev pub shown_as : Content → Shown
shown_as happened = event 0
shown_as (symbols s) = vector (class_of_all s) 0
shown_as (bits b) = real (of_bits binary64 b) b

-- ---- the cursor: 11, 4, 9

pub data CursorReply : Type 0 where
  refuse : ℕ → CursorReply
  nothing : CursorReply
  found : (number time : ℕ) → Shown → CursorReply

abbrev pub cursor_reply : Result (std.Option Found) Refusal → CursorReply
cursor_reply (Ok (std.Some f)) = found f.number f.time (entry_reply f.entry)
cursor_reply (Ok std.None) = nothing
cursor_reply (Err r) = refuse (refusal_number r)

pub record CursorAfter : Type 0 where
  pub reply : CursorReply
  pub symbols : List ℕ

abbrev pub cursor_after : CursorReply → List ℕ → CursorAfter
cursor_after r s = record { reply = r; symbols = s }

-- of entries numbered from i on, the last with time at or before t, and its number; p where there is none
unfoldable pub last_up_to : (times : List ℕ) (t : ℕ) (p : Option (ℕ × Entry)) (i : ℕ) → List Entry → Option (ℕ × Entry)
last_up_to ts t p i [] = p
last_up_to ts t p i (e ∷ es) = last_up_to ts t (pick (leb (get_or ts e.index 0) t) (some (i, e)) p) (suc i) es

-- the last entry with time at or before t, and its number: none before the first change, and without changes
abbrev pub entry_at : Load → (t : ℕ) → Option (ℕ × Entry)
entry_at l t = last_up_to l.times t none 0 l.entries

-- the entry's number, time and content, the symbols one number a byte, leftmost first; "none" writes nothing
abbrev pub pointed : (times : List ℕ) → Option (ℕ × Entry) → (out : List ℕ) → CursorAfter
pointed ts none out = cursor_after nothing out
pointed ts (some q) out =
    let e = q.1 in
    cursor_after (found q.0 (get_or ts e.index 0) (shown_as e.content)) (sets out 0 (symbols_of e.content))

-- 9: a vector's width exceeds the symbol buffer, even for "none"
unfoldable pub cursor_in : Image → (signal t : ℕ) → (out : List ℕ) → CursorAfter
cursor_in x g t out =
    let l = loads g x.blocks in
    pick (unknown_signal x g) (cursor_after (refuse 4) out)
    (pick (ltb (length out) (width_of (kind_at x g))) (cursor_after (refuse 9) out) (pointed l.times (entry_at l t) out))

abbrev pub cursor_from : Option Image → (signal t : ℕ) → (out : List ℕ) → CursorAfter
cursor_from none g t out = cursor_after (refuse 11) out
cursor_from (some x) g t out = cursor_in x g t out

abbrev pub cursor_of : (image : List ℕ) → (signal t : ℕ) → (out : List ℕ) → CursorAfter
cursor_of b g t out = cursor_from (parse b) g t out
