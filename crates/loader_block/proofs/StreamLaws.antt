-- The changes of a stream, one after the other, at their places in the image.
-- Assumes nothing.
use Prim.Native.Nat.{ℕ, ◌+◌, ◌-◌, ◌*◌, ◌≤◌, ◌<◌}
use mathlib.Core.Path.{◌≡◌, refl, sym, ap, ◌∙◌, subst}
use mathlib.Core.Bool.{Bool}
use mathlib.Core.List.{List, [], ◌∷◌, ◌++◌, append_assoc}
use native.Mathlib.Omega.{arith}
use lib.ListN.{length, drop, length-append, length-drop}
use Rattle.lists.specs.Got.{got}
use Rattle.lists.specs.Bytes.{Bytes}
use Rattle.value.specs.Class.{class_of_all}
use Rattle.signal.specs.declared.kind.SignalEncoding.{SignalEncoding}
use Rattle.signal.specs.declared.decode.ChangeValue.{ChangeValue}
use Rattle.signal.specs.Content.{symbols_of, ContentFits}
use Rattle.std.specs.Prelude as std
use Rattle.stream.specs.Stream.{Change, change, change_bytes, read_change}
use Rattle.stream.specs.Answer.{change_at, read_as, read_of}
use Rattle.stream.specs.Entries.{Entry, stream_bytes}
use Rattle.stream.proofs.StreamTrip.{read-written}
use Rattle.codec.specs.Valid.{EntryFits, EntriesFit}
use Rattle.codec.proofs.StreamLaws.{change-long}
use Rattle.loaded.specs.Loading.{moved}
use Rattle.loaded.specs.EntryBytes.{entry_bytes}
use Rattle.entry.specs.Read.{content_read}
use Rattle.entry.proofs.ReadThere.{ReadThere, read-there}
use Rattle.entry_same.specs.Kept.{KeptReads}
use Rattle.loader_measure.proofs.LeastLaws.{entry-change}
use Rattle.loader_block.specs.Output.{Output, taken, all_taken, Room, output_as}
use Rattle.loader_block.specs.declared.Loading.{Loading}
use Rattle.loader_block.proofs.OutputLaws.{Grows, all-grows, taken-grows, room-first}

-- from p to `to` stands the stream of entries that are still to come, after a change at the index prev; none is before the index least
pub record Ahead (k : SignalEncoding) (b : List ℕ) (n top p to : ℕ) : Type 0 where
  pub prev : ℕ
  pub least : ℕ
  pub entries : List Entry
  pub tail : List ℕ
  pub bytes : drop p b ≡ stream_bytes k prev entries ++ tail
  pub size : p + length (stream_bytes k prev entries) ≡ to
  pub inside : to ≤ length b
  pub fits : EntriesFit k n least top entries
  pub order : prev ≤ least

-- the change that is read there
pub record Turn (k : SignalEncoding) (b : List ℕ) (n top p to : ℕ) (a : Ahead k b n top p to) (d : ℕ) (v : ChangeValue) (next : ℕ) : Type 0 where
  pub first : Entry
  pub after : Ahead k b n top next to
  pub entries : a.entries ≡ first ∷ after.entries
  pub index : a.prev + d ≡ first.index
  pub prev : after.prev ≡ first.index
  pub content : content_read k b v next ≡ first.content
  pub below : first.index < n
  pub class : class_of_all (symbols_of first.content) ≤ top
  pub fits : ContentFits k first.content
  pub size : p + length (change_bytes k d first.content) ≡ next
  pub later : p < next
  pub within : next ≤ to

module _ (k : SignalEncoding) (b : List ℕ) (n top p to : ℕ) (y : Bytes b) (few : n ≤ 65535) (h : p < to) where
  -- the first of them is read
  front : (prev least : ℕ) (e : Entry) (es : List Entry) (tail : List ℕ) → drop p b ≡ stream_bytes k prev (e ∷ es) ++ tail → EntryFits k n least top e
      → prev ≤ least → read_change k (drop p b) ≡ got (change (e.index - prev) e.content) (stream_bytes k e.index es ++ tail)
  unfolding stream_bytes
  front prev least e es tail q f o =
      let c : List ℕ = change_bytes k (e.index - prev) e.content in
      let r : List ℕ = stream_bytes k e.index es in
      ap (read_change k) (q ∙ append_assoc c r tail)
      ∙ read-written k (e.index - prev) e.content (r ++ tail) (omega (arith, f.inside)) f.content

  turn_by : (prev least : ℕ) (es : List Entry) (tail : List ℕ) (q : drop p b ≡ stream_bytes k prev es ++ tail) (z : p + length (stream_bytes k prev es) ≡ to)
      (i : to ≤ length b) (f : EntriesFit k n least top es) (o : prev ≤ least) (d : ℕ) (v : ChangeValue) (next : ℕ) → change_at k b p ≡ read_of d v next
      → Turn k b n top p to (record { prev = prev; least = least; entries = es; tail = tail; bytes = q; size = z; inside = i; fits = f; order = o }) d v next
  unfolding stream_bytes
  turn_by prev least [] tail q z i f o d v next e = absurd (omega arith)
  turn_by prev least (x ∷ es) tail q z i f o d v next e =
      let t : ReadThere k b v next p d = read-there k b v next p d y e in
      let g : got (change (x.index - prev) x.content) (stream_bytes k x.index es ++ tail) ≡ got (change d (content_read k b v next)) (drop next b) =
      sym (front prev least x es tail q f.0 o) ∙ t.found in
      let same : change (x.index - prev) x.content ≡ change d (content_read k b v next) = cc in
      let rest : stream_bytes k x.index es ++ tail ≡ drop next b = cc in
      let c : List ℕ = change_bytes k (x.index - prev) x.content in
      let r : List ℕ = stream_bytes k x.index es in
      let d' : x.index - prev ≡ d = ap (λ (u : Change). u.d) same in
      let some = change-long k (x.index - prev) x.content f.0.content in
      let l1 : length (drop p b) ≡ length c + length r + length tail = ap length q ∙ length-append (c ++ r) tail ∙ ap (λ (u : ℕ). u + length tail) (length-append c r) in
      let l2 : length r + length tail ≡ length (drop next b) = sym (length-append r tail) ∙ ap length rest in
      let z' : p + (length c + length r) ≡ to = ap (λ (u : ℕ). p + u) (sym (length-append c r)) ∙ z in
      let l3 = length-drop p b in
      let l4 = length-drop next b in
      let w = t.within in
      let ends : next + length r ≡ to = omega arith in
      record {
        first = x;
        after = record { prev = x.index; least = x.index; entries = es; tail = tail; bytes = sym rest; size = ends; inside = i; fits = f.1; order = omega arith };
        entries = refl;
        index = omega (arith, f.0.later);
        prev = refl;
        content = sym (ap (λ (u : Change). u.content) same);
        below = f.0.inside;
        class = f.0.class;
        fits = f.0.content;
        size = subst (λ (m : ℕ). p + length (change_bytes k m x.content) ≡ next) d' (omega arith);
        later = omega arith;
        within = omega arith;
      }

  pub turn : (a : Ahead k b n top p to) (d : ℕ) (v : ChangeValue) (next : ℕ) → change_at k b p ≡ read_of d v next → Turn k b n top p to a d v next
  turn a d v next e = turn_by a.prev a.least a.entries a.tail a.bytes a.size a.inside a.fits a.order d v next e

  never-bad : (prev least : ℕ) (es : List Entry) (tail : List ℕ) → drop p b ≡ stream_bytes k prev es ++ tail → p + length (stream_bytes k prev es) ≡ to
      → EntriesFit k n least top es → prev ≤ least → change_at k b p ≡ std.None → ⊥
  unfolding stream_bytes
  never-bad prev least [] tail q z f o e = omega arith
  never-bad prev least (x ∷ es) tail q z f o e =
      let g = front prev least x es tail q f.0 o in
      let u : read_as k (length b) (got (change (x.index - prev) x.content) (stream_bytes k x.index es ++ tail)) ≡ std.None = ap (read_as k (length b)) (sym g) ∙ e in
      let z : ◌≡◌ {A = ℕ} 0 1 = cc in omega arith

  pub not-bad : Ahead k b n top p to → change_at k b p ≡ std.None → ⊥
  not-bad a e = never-bad a.prev a.least a.entries a.tail a.bytes a.size a.fits a.order e

-- the entry of a change has at most four times its bytes
pub entry-bytes : (k : SignalEncoding) (b : List ℕ) (n top p to c : ℕ) (a : Ahead k b n top p to) (d : ℕ) (v : ChangeValue) (next : ℕ) → Turn k b n top p to a d v next → top ≤ c → c ≤ 2
    → length (entry_bytes k c (content_read k b v next)) + 4 * p ≤ 4 * next
entry-bytes k b n top p to c a d v next t h z =
    let m = entry-change k c d t.first.content t.fits (omega (arith, t.class)) z in
    rw t.content (omega (arith, t.size))

-- at the end none is left
none-by : (k : SignalEncoding) (n top p to prev least : ℕ) (es : List Entry) → p + length (stream_bytes k prev es) ≡ to → EntriesFit k n least top es → to ≤ p → es ≡ []
unfolding stream_bytes
none-by k n top p to prev least [] z f h = refl
none-by k n top p to prev least (x ∷ es) z f h =
    let some = change-long k (x.index - prev) x.content f.0.content in
    absurd (omega (arith, length-append (change_bytes k (x.index - prev) x.content) (stream_bytes k x.index es)))

pub none_left : (k : SignalEncoding) (b : List ℕ) (n top p to : ℕ) (a : Ahead k b n top p to) → to ≤ p → a.entries ≡ []
none_left k b n top p to a h = none-by k n top p to a.prev a.least a.entries a.size a.fits h

-- ---- the output on the way

-- what is still to come makes of the output what all of it makes of the one before
pub record Going (k : SignalEncoding) (b : List ℕ) (n top c : ℕ) (w : Bool) (base from to : ℕ) (o : Output) (all : List Entry) (p i : ℕ) (s : Loading) (index bytes : List ℕ) : Type 0 where
  pub ahead : Ahead k b n top p to
  pub at : i ≡ base + ahead.prev
  pub reads : KeptReads k b s.last
  pub same : all_taken k c w (output_as k b s index bytes) (moved base ahead.entries) ≡ all_taken k c w o all
  pub start : from ≤ p
  pub few : s.count + from ≤ o.count + p
  pub used : s.used + 4 * from ≤ o.used + 4 * p
  pub index-size : length index ≡ length o.index
  pub bytes-size : length bytes ≡ length o.bytes

module _ (k : SignalEncoding) (b : List ℕ) (n top c : ℕ) (w : Bool) (base from to : ℕ) (o : Output) (all : List Entry) where
  -- one change of it
  one_more : (p i : ℕ) (s : Loading) (index bytes : List ℕ) (g : Going k b n top c w base from to o all p i s index bytes) (d : ℕ) (v : ChangeValue) (next : ℕ)
      → (t : Turn k b n top p to g.ahead d v next)
      → all_taken k c w (taken k c w (output_as k b s index bytes) (i + d) (content_read k b v next)) (moved base t.after.entries) ≡ all_taken k c w o all
  unfolding all_taken moved
  one_more p i s index bytes g d v next t =
      let j : i + d ≡ base + t.first.index = omega (arith, g.at, t.index) in
      rw (j, t.content) (subst (λ (es : List Entry). all_taken k c w (output_as k b s index bytes) (moved base es) ≡ all_taken k c w o all) t.entries g.same)

  pub change-room : (p i : ℕ) (s : Loading) (index bytes : List ℕ) (g : Going k b n top c w base from to o all p i s index bytes) (d : ℕ) (v : ChangeValue) (next : ℕ)
      → Turn k b n top p to g.ahead d v next → Room w (all_taken k c w o all) (length o.index) (length o.bytes)
      → Room w (taken k c w (output_as k b s index bytes) (i + d) (content_read k b v next)) (length index) (length bytes)
  change-room p i s index bytes g d v next t r =
      let x : Output = taken k c w (output_as k b s index bytes) (i + d) (content_read k b v next) in
      rw (g.index-size, g.bytes-size)
      (room-first w x (all_taken k c w o all) (length o.index) (length o.bytes)
      (subst (λ (q : Output). Grows x q) (one_more p i s index bytes g d v next t) (all-grows k c w x (moved base t.after.entries))) r)

  pub going_on : (p i : ℕ) (s : Loading) (index bytes : List ℕ) (g : Going k b n top c w base from to o all p i s index bytes) (d : ℕ) (v : ChangeValue) (next : ℕ)
      → Turn k b n top p to g.ahead d v next → (s' : Loading) (index' bytes' : List ℕ) → KeptReads k b s'.last → s'.count ≤ s.count + 1
      → s'.used + 4 * p ≤ s.used + 4 * next
      → output_as k b s' index' bytes' ≡ taken k c w (output_as k b s index bytes) (i + d) (content_read k b v next)
      → Going k b n top c w base from to o all next (i + d) s' index' bytes'
  going_on p i s index bytes g d v next t s' index' bytes' r q u e =
      let grows = taken-grows k c w (output_as k b s index bytes) (i + d) (content_read k b v next) in
      record {
        ahead = t.after;
        at = omega (arith, g.at, t.index, t.prev);
        reads = r;
        same = ap (λ (x : Output). all_taken k c w x (moved base t.after.entries)) e ∙ one_more p i s index bytes g d v next t;
        start = omega (arith, g.start, t.later);
        few = omega (arith, g.few, t.later);
        used = omega (arith, g.used);
        index-size = ap (λ (x : Output). length x.index) e ∙ grows.index ∙ g.index-size;
        bytes-size = ap (λ (x : Output). length x.bytes) e ∙ grows.bytes ∙ g.bytes-size;
      }

  pub gone : (p i : ℕ) (s : Loading) (index bytes : List ℕ) → Going k b n top c w base from to o all p i s index bytes → to ≤ p
      → output_as k b s index bytes ≡ all_taken k c w o all
  unfolding all_taken moved
  gone p i s index bytes g h =
      subst (λ (es : List Entry). all_taken k c w (output_as k b s index bytes) (moved base es) ≡ all_taken k c w o all) (none_left k b n top p to g.ahead h) g.same
