-- Document 01, 'History': what a list of calls says. Fed are kinds, the edition that was chosen at the start, calls with their senders and, of
-- the answers, only which are refusals; nothing of the recorder's state. What becomes of the skips, and whose is meant, is written here anew;
-- their types are the recorder's. How a change is counted (`counted`) and how a time stands to the last one (`way_of`) are said once, in
-- recording/specs/Calls.antt.
-- Assumes nothing.
use Rattle.std.specs.Prelude.{ℕ, zero, suc, ◌-◌, max, Bool, true, false, List, [], ◌∷◌, ◌++◌, reverse, length, get_or, eqb, ltb}
use Rattle.std.proofs.Math.Option.{Option, some, none}
use Rattle.lists.specs.Choice.{pick}
use Rattle.signal.specs.declared.kind.SignalEncoding.{SignalEncoding}
use Rattle.signal.specs.declared.kind.SignalEncoding.TheVariants.{Absent}
use Rattle.signal.specs.Content.{Content, Decoded, refuse, accept, decode}
use Rattle.stream.specs.Entries.{Entry, entry, repeats, or_nine}
use Rattle.recording.specs.Calls as calls
use Rattle.recording.specs.Calls.{Call, time, change, finish, Heard, taken, back, recorded, skipped, silent, Way, above, equal, below, way_of, counted}
use Rattle.recording.specs.declared.ProbeSkip.{ProbeSkip}
use Rattle.recording.specs.declared.Skips.{Skips}

-- a change: its signal, the place of the last time (from 0), its content, and the larger of its value's class and a raw claim
pub record Change : Type 0 where
  pub signal : ℕ
  pub place : ℕ
  pub content : Content
  pub class : ℕ

-- ---- the skip of one probe

-- whether its changes are skipped, and how many were
abbrev pub one_skip : (on : Bool) (count : ℕ) → ProbeSkip
one_skip b n = record { on = b; count = n }

-- a time below the last starts it
abbrev pub skip_started : ProbeSkip → ProbeSkip
skip_started k = one_skip true k.count

-- it ends, as where a time is above the last
abbrev pub skip_over : ProbeSkip → ProbeSkip
skip_over k = one_skip false k.count

-- document 02, (j): a time equal to the last ends it in edition 2
abbrev pub skip_at_same : (edition : ℕ) → ProbeSkip → ProbeSkip
skip_at_same e k = pick (eqb e 2) (skip_over k) k

-- a change in it is counted
abbrev pub skip_one_more : ProbeSkip → ProbeSkip
skip_one_more k = one_skip k.on (counted k.count)

-- ---- document 02, (k): a skip and a count for each probe

abbrev pub two_skips : (zero one : ProbeSkip) → Skips
two_skips k l = record { zero = k; one = l }

-- at the start off, 0
abbrev pub all_off : Skips
all_off = two_skips (one_skip false 0) (one_skip false 0)

-- the sender's; a call of a sender above 1 is refused, so that nothing is asked of it
abbrev pub skip_by : (sender : ℕ) → Skips → ProbeSkip
skip_by zero s = s.zero
skip_by (suc p) s = s.one

-- "it starts or ends the skip of its sender only"
abbrev pub only_by : (sender : ℕ) → (ProbeSkip → ProbeSkip) → Skips → Skips
only_by zero f s = two_skips (f s.zero) s.one
only_by (suc p) f s = two_skips s.zero (f s.one)

-- ---- the history

-- times, changes in call order, whoever sent them, and the skips
pub record History : Type 0 where
  pub times : List ℕ
  pub changes : List Change
  pub skips : Skips

abbrev pub history : List ℕ → List Change → Skips → History
history t c k = record { times = t; changes = c; skips = k }

-- at the start empty, off, 0
abbrev pub no_history : History
no_history = history [] [] all_off

pub record Told : Type 0 where
  pub answer : Heard
  pub next : History

abbrev pub told : Heard → History → Told
told a h = record { answer = a; next = h }

-- first or above the last, whoever sent that: joins the times, ends the sender's skip. Equal: ends it in edition 2. Below: starts it
abbrev pub tell_time : (edition : ℕ) → History → (sender t : ℕ) → Way → Told
tell_time e h p t above = told taken (history (h.times ++ t ∷ []) h.changes (only_by p skip_over h.skips))
tell_time e h p t equal = told calls.same (history h.times h.changes (only_by p (skip_at_same e) h.skips))
tell_time e h p t below = told back (history h.times h.changes (only_by p skip_started h.skips))

-- in the sender's skip: counted. A value that says nothing to the signal's kind (then the call is refused): nothing. Else: joins with the place of
-- the last time, its content and its class
abbrev pub tell_change : History → (sender signal : ℕ) → (skip : Bool) → Decoded → Told
tell_change h p g true d = told skipped (history h.times h.changes (only_by p skip_one_more h.skips))
tell_change h p g false (refuse n) = told silent h
tell_change h p g false (accept a c) =
    told recorded (history h.times (h.changes ++ record { signal = g; place = length h.times - 1; content = a; class = c } ∷ []) h.skips)

-- a refused call, or finish: nothing changes
unfoldable pub tell : List SignalEncoding → (edition : ℕ) → History → Call → (refused : Bool) → Told
tell ks e h c true = told silent h
tell ks e h (time p t) false = tell_time e h p t (way_of h.times t)
tell ks e h (change p g v) false = tell_change h p g (skip_by p h.skips).on (decode (get_or ks g Absent) v)
tell ks e h finish false = told silent h

pub record Telling : Type 0 where
  pub answers : List Heard
  pub last : History

unfoldable pub tell_all : List SignalEncoding → (edition : ℕ) → History → List Call → (refusals : List Bool) → Telling
tell_all ks e h [] rs = record { answers = []; last = h }
tell_all ks e h (c ∷ cs) [] = record { answers = []; last = h }
tell_all ks e h (c ∷ cs) (r ∷ rs) =
    let t = tell ks e h c r in
    let k = tell_all ks e t.next cs rs in
    record { answers = t.answer ∷ k.answers; last = k.last }

-- ---- what is kept

-- the list of a signal: an entry has the place of its time, and its content
unfoldable pub list_of : (signal : ℕ) → List Change → List Entry
list_of g [] = []
list_of g (c ∷ cs) = pick (eqb c.signal g) (entry c.place c.content ∷ list_of g cs) (list_of g cs)

-- kept: the first, and each differing in content from the one before it in the list; of events all
unfoldable pub kept_after : Content → List Entry → List Entry
kept_after p [] = []
kept_after p (e ∷ es) = pick (repeats p e.content) (kept_after e.content es) (e ∷ kept_after e.content es)

unfoldable pub kept : List Entry → List Entry
kept [] = []
kept (e ∷ es) = e ∷ kept_after e.content es

abbrev pub kept_of : History → (signal : ℕ) → List Entry
kept_of h g = kept (list_of g h.changes)

-- class: the top class rule over the whole list, changes not kept included; Nine if it is empty
unfoldable pub top_of : (signal : ℕ) → List Change → ℕ
top_of g [] = 0
top_of g (c ∷ cs) = max (pick (eqb c.signal g) c.class 0) (top_of g cs)

abbrev pub class_of : History → (signal : ℕ) → ℕ
class_of h g = or_nine (list_of g h.changes) (top_of g h.changes)

-- ---- what is shown at a time

-- of changes from the newest to the oldest, the first that is not after t, with how many stand before it in call order
unfoldable pub newest_up_to : (times : List ℕ) (t : ℕ) → List Entry → Option (ℕ × Entry)
newest_up_to ts t [] = none
newest_up_to ts t (e ∷ es) = pick (ltb t (get_or ts e.index 0)) (newest_up_to ts t es) (some (length es, e))

-- document 02, (a): the kept change that stands at t, and its number; none before the first
abbrev pub shown_at : History → (signal t : ℕ) → Option (ℕ × Entry)
shown_at h g t = newest_up_to h.times t (reverse (kept_of h g))
