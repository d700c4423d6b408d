-- Document 01, 'Loaded signal': the combined table, and one signal's entries and class, out of an image's blocks.
-- Assumes nothing.
use Rattle.std.specs.Prelude.{ℕ, ◌+◌, ◌-◌, max, Bool, false, List, [], ◌∷◌, ◌++◌, length, drop, eqb}
use Rattle.std.proofs.Math.Option.{Option, some, none}
use Rattle.lists.specs.Choice.{pick}
use Rattle.lists.specs.Last.{last_or}
use Rattle.signal.specs.Content.{Content}
use Rattle.stream.specs.Entries.{Entry, entry, repeats, or_nine}
use Rattle.image.specs.Block.{Part, Block}
use Rattle.loaded.specs.Opener.{part_at}

-- ---- the combined table

-- how many of a block's times are in the table already: its first, where it equals the preceding end
abbrev pub overlap : (table times : List ℕ) → ℕ
overlap [] ts = 0
overlap (x ∷ l) [] = 0
overlap (x ∷ l) (t ∷ ts) = pick (eqb t (last_or x l)) 1 0

-- omits a block's first time where it equals the preceding end
abbrev pub join_times : (table times : List ℕ) → List ℕ
join_times l ts = l ++ drop (overlap l ts) ts

unfoldable pub table_from : (table : List ℕ) → List (Block (List Entry)) → List ℕ
table_from l [] = l
table_from l (b ∷ bs) = table_from (join_times l b.times) bs

-- ---- one signal

-- indices count in the combined table, in which a block's times begin at n
unfoldable pub moved : (n : ℕ) → List Entry → List Entry
moved n [] = []
moved n (e ∷ es) = entry (n + e.index) e.content ∷ moved n es

-- a content repeats the last of the output
unfoldable pub repeats_last : List Entry → Content → Bool
repeats_last [] c = false
repeats_last (o ∷ []) c = repeats o.content c
repeats_last (o ∷ q ∷ os) c = repeats_last (q ∷ os) c

-- one output for all, repeats dropped
unfoldable pub pushed : (output : List Entry) → List Entry → List Entry
pushed out [] = out
pushed out (e ∷ es) = pushed (pick (repeats_last out e.content) out (out ++ e ∷ [])) es

-- what blocks give: the combined table, the kept entries, the largest top class
pub record Load : Type 0 where
  pub times : List ℕ
  pub entries : List Entry
  pub class : ℕ

abbrev pub load : List ℕ → List Entry → ℕ → Load
load t e c = record { times = t; entries = e; class = c }

abbrev pub entries_in : Option (Part (List Entry)) → List Entry
entries_in none = []
entries_in (some p) = p.stream

abbrev pub top_in : Option (Part (List Entry)) → ℕ
top_in none = 0
top_in (some p) = p.top

abbrev pub load_block : (signal : ℕ) → Load → Block (List Entry) → Load
load_block g l b =
    load (join_times l.times b.times)
    (pushed l.entries (moved (length l.times - overlap l.times b.times) (entries_in (part_at b g))))
    (max l.class (top_in (part_at b g)))

-- blocks in order
unfoldable pub load_from : (signal : ℕ) → Load → List (Block (List Entry)) → Load
load_from g l [] = l
load_from g l (b ∷ bs) = load_from g (load_block g l b) bs

abbrev pub loads : (signal : ℕ) → List (Block (List Entry)) → Load
loads g bs = load_from g (load [] [] 0) bs

-- C: the largest top class of its blocks, Nine if none
abbrev pub signal_class : Load → ℕ
signal_class l = or_nine l.entries l.class
