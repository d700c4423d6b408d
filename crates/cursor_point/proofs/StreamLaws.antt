-- A turn over a stream in an accepted image: the change that is read there, and the entries after it.
-- Assumes nothing.
use Prim.Native.Nat.{ℕ, ◌+◌, ◌-◌, ◌≤◌, ◌<◌}
use mathlib.Core.Path.{◌≡◌, refl, sym, ap, ◌∙◌}
use mathlib.Core.List.{List, [], ◌∷◌, ◌++◌, append_assoc}
use native.Mathlib.Omega.{arith}
use lib.ListN.{length, drop, length-append, length-drop}
use Rattle.lists.specs.Bytes.{Bytes}
use Rattle.lists.specs.Got.{Got, bad, got}
use Rattle.signal.specs.declared.kind.SignalEncoding.{SignalEncoding}
use Rattle.signal.specs.declared.decode.ChangeValue.{ChangeValue}
use Rattle.signal.specs.Content.{Content}
use Rattle.stream.specs.Entries.{Entry, stream_bytes}
use Rattle.stream.specs.Stream.{Change, change, change_bytes, read_change, max_delta}
use Rattle.stream.specs.Answer.{change_at, read_as, read_of}
use Rattle.std.specs.Prelude as std
use Rattle.stream.proofs.StreamTrip.{read-written}
use Rattle.codec.specs.Valid.{EntriesFit}
use Rattle.codec.proofs.StreamLaws.{change-long}
use Rattle.entry.specs.Read.{content_read, Reads}
use Rattle.entry.proofs.ReadThere.{ReadThere, read-there}

-- ---- a change at the front of a stream

-- the entries es, of which the previous index is i, stand in b from p to `to`
pub record Standing (k : SignalEncoding) (b : List ℕ) (n p to i : ℕ) (es : List Entry) : Type 0 where
  pub top : ℕ
  pub ordered : p ≤ to
  pub inside : to ≤ length b
  pub bytes : drop p b ≡ stream_bytes k i es ++ drop to b
  pub fits : EntriesFit k n i top es

-- the change that was read is the first entry; the others follow it
pub record Read (k : SignalEncoding) (b : List ℕ) (n p to i d : ℕ) (v : ChangeValue) (next : ℕ) (es : List Entry) : Type 0 where
  pub first : Entry
  pub rest : List Entry
  pub all : es ≡ first ∷ rest
  pub index : i + d ≡ first.index
  pub below : i + d < n
  pub content : first.content ≡ content_read k b v next
  pub reads : Reads k b v next
  pub more : p < next
  pub after : Standing k b n next to (i + d) rest

abbrev d_of : Got Change → ℕ
d_of bad = 0
d_of (got x r) = x.d

abbrev rest_of : Got Change → List ℕ
rest_of bad = []
rest_of (got x r) = r

abbrev content_or : Content → Got Change → Content
content_or c bad = c
content_or c (got x r) = x.content

module _ (k : SignalEncoding) (b : List ℕ) (n p to i : ℕ) (y : Bytes b) (small : n ≤ max_delta + 1) (h : p < to) where
  some_left : (es : List Entry) → Standing k b n p to i es → es ≡ [] → ⊥
  unfolding stream_bytes
  some_left [] s e = omega (arith, length-drop p b, length-drop to b, ap length s.bytes, s.inside)
  some_left (a ∷ es) s e = let z : ◌≡◌ {A = ℕ} 0 1 = cc in absurd (omega arith)

  found_first : (e : Entry) (es : List Entry) → Standing k b n p to i (e ∷ es)
      → read_change k (drop p b) ≡ got (change (e.index - i) e.content) (stream_bytes k e.index es ++ drop to b)
  unfolding stream_bytes
  found_first e es s =
      ap (read_change k) (s.bytes ∙ append_assoc (change_bytes k (e.index - i) e.content) (stream_bytes k e.index es) (drop to b))
      ∙ read-written k (e.index - i) e.content (stream_bytes k e.index es ++ drop to b) (omega (arith, s.fits.0.inside)) s.fits.0.content

  pub never-bad : (es : List Entry) → Standing k b n p to i es → change_at k b p ≡ std.None → ⊥
  never-bad [] s e = some_left [] s refl
  never-bad (a ∷ es) s e =
      let f : read_as k (length b) (read_change k (drop p b)) ≡ read_as k (length b) (got (change (a.index - i) a.content) (stream_bytes k a.index es ++ drop to b)) = ap
      (read_as k (length b)) (found_first a es s) in
      let z : ◌≡◌ {A = ℕ} 0 1 = cc in
      absurd (omega arith)

  pub read_first : (d : ℕ) (v : ChangeValue) (next : ℕ) (es : List Entry) → Standing k b n p to i es → change_at k b p ≡ read_of d v next
      → Read k b n p to i d v next es
  unfolding stream_bytes
  read_first d v next [] s e = absurd (some_left [] s refl)
  read_first d v next (a ∷ es) s e =
      let t : ReadThere k b v next p d = read-there k b v next p d y e in
      let f = sym t.found ∙ found_first a es s in
      let x : d ≡ a.index - i = ap d_of f in
      let c : content_read k b v next ≡ a.content = ap (content_or a.content) f in
      let r : drop next b ≡ stream_bytes k a.index es ++ drop to b = ap rest_of f in
      let q = s.fits.0 in
      let j : i + d ≡ a.index = omega (arith, q.later) in
      let l : 0 < length (change_bytes k (a.index - i) a.content) = change-long k (a.index - i) a.content q.content in
      let o = s.bytes ∙ append_assoc (change_bytes k (a.index - i) a.content) (stream_bytes k a.index es) (drop to b) in
      let w : length (drop p b) ≡ length (change_bytes k (a.index - i) a.content) + length (drop next b) = ap length o
      ∙ length-append (change_bytes k (a.index - i) a.content) (stream_bytes k a.index es ++ drop to b)
      ∙ ap (λ (m : List ℕ). length (change_bytes k (a.index - i) a.content) + length m) (sym r) in
      record {
        first = a;
        rest = es;
        all = refl;
        index = j;
        below = omega (arith, q.inside);
        content = sym c;
        reads = (p, d, e);
        more = omega (arith, length-drop p b, length-drop next b, t.within, s.inside);
        after = record {
          top = s.top;
          ordered = omega (arith, length-drop to b, length-drop next b, t.within, s.inside, ap length r, length-append (stream_bytes k a.index es) (drop to b));
          inside = s.inside;
          bytes = rw j r;
          fits = rw j s.fits.1;
        };
      }
