-- The loop over a signal's stream in a block of an accepted image: what holds at a place of it, at the begin, after a turn, at the end.
-- Assumes nothing.
use Prim.Native.Nat.{ℕ, suc, ◌+◌, ◌-◌, ◌≤◌, ◌<◌, ◌^◌}
use mathlib.Core.Path.{◌≡◌, refl, sym, ap, ◌∙◌, subst}
use mathlib.Core.List.{List, [], ◌∷◌, ◌++◌}
use native.Mathlib.Omega.{arith}
use lib.ListN.{length, get_or, drop, length-append, length-drop, take-append-drop}
use lib.Seq.{drop-drop, drop-cons, drop-length}
use Rattle.lists.specs.Bytes.{Bytes}
use Rattle.signal.specs.declared.kind.SignalEncoding.{SignalEncoding}
use Rattle.signal.specs.declared.decode.ChangeValue.{ChangeValue}
use Rattle.signal.specs.Content.{Content}
use Rattle.stream.specs.Entries.{Entry, stream_bytes}
use Rattle.stream.specs.Stream.{change_bytes, max_delta}
use Rattle.stream.specs.Answer.{change_at, read_of}
use Rattle.std.specs.Prelude as std
use Rattle.image.specs.Block.{Block, block}
use Rattle.image.specs.Head.{image_limit}
use Rattle.codec.specs.Valid.{Rising, EntriesFit}
use Rattle.codec.proofs.StreamLaws.{change-long}
use Rattle.loaded.specs.Opener.{kind_at, block_at, part_at}
use Rattle.loaded.specs.Loading.{entries_in}
use Rattle.entry.specs.Read.{content_read, Reads}
use Rattle.walk.specs.Walk.{Opened, image_in, block_place, BlockHere, PartHere}
use Rattle.walk.proofs.HeadLaws.{means, head_in}
use Rattle.walk.proofs.BlockLaws.{fits_in, here, next-size}
use Rattle.walk_part.proofs.PartLaws.{stream-entries}
use Rattle.cursor_point.specs.declared.Pointing.{Pointing}
use Rattle.cursor_point.specs.Point.{Point, kept, passed, all_passed, blocks_passed, point_as, PointReads}
use Rattle.cursor_point.proofs.PointLaws.{InOrder, none_passed, passed-count, passed-kept}
use Rattle.cursor_point.proofs.LoadLaws.{in_order, part-fits, parts-short}
use Rattle.cursor_point.proofs.StreamLaws.{Standing, Read, read_first, never-bad}

-- ---- what is known of a block's parts

times-most : (n at : ℕ) (b : List ℕ) → Bytes b → Opened b → BlockHere n at b → length (block_at (image_in b) n).times ≤ max_delta + 1
times-most n at b y o h =
    let f = fits_in n b y o h.exists in
    omega (arith, f.few, (means b y o).valid.high)

-- the entries kept before a block and those of the block are not more than the bytes up to its end
pub counts-next : (n at g count : ℕ) (b : List ℕ) → Bytes b → Opened b → BlockHere n at b → count ≤ at
    → count + length (entries_in (part_at (block_at (image_in b) n) g)) ≤ block_place (image_in b) (suc n)
counts-next n at g count b y o h c =
    let q = fits_in n b y o h.exists in
    omega (arith, next-size (image_in b) n h.exists, h.place, parts-short _ (image_in b).kinds (block_at (image_in b) n).parts g q.parts)

next-most : (n at : ℕ) (b : List ℕ) → Bytes b → Opened b → BlockHere n at b → block_place (image_in b) (suc n) ≤ image_limit
next-most n at b y o h = omega (arith, next-size (image_in b) n h.exists, h.place, (here n at b y o h).most, (head_in b y o).most)

-- ---- a place of the stream

pub record Passing (k : SignalEncoding) (b : List ℕ) (number g at to t : ℕ) (start held : Pointing) (p i : ℕ) : Type 0 where
  pub standing : BlockHere number at b
  pub left : List Entry
  pub stands : Standing k b (length (block_at (image_in b) number).times) p to i left
  pub reads : PointReads k b held
  pub room : held.count + length left ≤ image_limit
  pub same :
      all_passed (block_at (image_in b) number).times t (point_as k b held) left
      ≡ all_passed (block_at (image_in b) number).times t (point_as k b start) (entries_in (part_at (block_at (image_in b) number) g))

pub passing_begins : (n : ℕ) (k : SignalEncoding) (b : List ℕ) (g at from to top t : ℕ) (start : Pointing) → Bytes b → Opened b → BlockHere n at b → k ≡ kind_at (image_in b) g
    → PartHere from to top n g b → PointReads k b start → start.count ≤ at → Passing k b n g at to t start start from 0
passing_begins n k b g at from to top t start y o h e f r c =
    let x = image_in b in
    let q = fits_in n b y o h.exists in
    let w = part-fits _ x.kinds (block_at x n).parts g q.parts in
    let es : List Entry = entries_in (part_at (block_at x n) g) in
    let z : from + (to - from) ≡ to = omega (arith, f.ordered) in
    let s : drop from b ≡ stream_bytes (kind_at x g) 0 es ++ drop to b =
    sym (take-append-drop (to - from) (drop from b))
    ∙ ap (λ (l : List ℕ). l ++ drop (to - from) (drop from b)) (f.stream ∙ stream-entries (kind_at x g) (part_at (block_at x n) g))
    ∙ ap (λ (l : List ℕ). stream_bytes (kind_at x g) 0 es ++ l) (drop-drop (to - from) from b ∙ ap (λ (m : ℕ). drop m b) z) in
    record {
      standing = h;
      left = es;
      stands = record { top = w.0; ordered = f.ordered; inside = f.inside; bytes = rw e s; fits = rw e w.1 };
      reads = r;
      room = omega (arith, counts-next n at g start.count b y o h c, next-most n at b y o h);
      same = refl;
    }

-- the point after block number m, which begins there
abbrev pub Passed : SignalEncoding → (b : List ℕ) (g at t : ℕ) → (start held : Pointing) → (m : ℕ) → Type 0
Passed k b g at t start held m =
    point_as k b held ≡ all_passed (block_at (image_in b) m).times t (point_as k b start) (entries_in (part_at (block_at (image_in b) m) g))

-- what a turn needs, and what it leaves
pub record Turn (k : SignalEncoding) (b : List ℕ) (number g at to t : ℕ) (start held : Pointing) (p i d : ℕ) (v : ChangeValue) (next : ℕ) : Type 0 where
  pub time : i + d < length (block_at (image_in b) number).times
  pub small : i + d < 65536
  pub count : held.count + 1 < 2 ^ 32
  pub reads : Reads k b v next
  pub more : p < next
  pub most : next ≤ to
  -- a time at or before t: the change is kept
  pub again :
      (r : Pointing) (u : ℕ) → u ≡ get_or (block_at (image_in b) number).times (i + d) 0 → u ≤ t → PointReads k b r
      → point_as k b r ≡ kept (point_as k b held) u (content_read k b v next) → Passing k b number g at to t start r next (i + d)
  -- a time after t: nothing more is
  pub stops : (u : ℕ) → u ≡ get_or (block_at (image_in b) number).times (i + d) 0 → t < u → Passed k b g at t start held number

module _ (k : SignalEncoding) (b : List ℕ) (n g at to t : ℕ) (start held : Pointing) (p i : ℕ) (y : Bytes b) (o : Opened b) (w : Passing k b n g at to t start held p i) where
  pub passing-turn : (d : ℕ) (v : ChangeValue) (next : ℕ) → p < to → change_at k b p ≡ read_of d v next → Turn k b n g at to t start held p i d v next
  passing-turn d v next h e =
      let ts : List ℕ = (block_at (image_in b) n).times in
      let small = times-most n at b y o w.standing in
      let q : Read k b (length ts) p to i d v next w.left = read_first k b (length ts) p to i y small h d v next w.left w.stands e in
      let long : length w.left ≡ suc (length q.rest) = ap length q.all in
      let rising = (fits_in n b y o w.standing.exists).rising in
      record {
        time = q.below;
        small = omega (arith, q.below);
        count = omega (arith, w.room);
        reads = q.reads;
        more = q.more;
        most = q.after.ordered;
        again = λ r u f l z m.
            let c : Content = content_read k b v next in
            let j : point_as k b r ≡ passed t (point_as k b held) u c = m ∙ passed-kept t (point_as k b held) u c l in
            let s : passed t (point_as k b held) (get_or ts q.first.index 0) q.first.content ≡ point_as k b r =
            ap (λ (j : ℕ). passed t (point_as k b held) (get_or ts j 0) q.first.content) (sym q.index)
            ∙ ap (λ (j : ℕ). passed t (point_as k b held) j q.first.content) (sym f)
            ∙ ap (passed t (point_as k b held) u) q.content ∙ sym j in
            record {
              standing = w.standing;
              left = q.rest;
              stands = q.after;
              reads = z;
              room = omega (arith, w.room, passed-count t (point_as k b held) u c, ap (λ (a : Point). a.count) j);
              same = step ts q.first q.rest (point_as k b r) s ∙ sym (ap (all_passed ts t (point_as k b held)) q.all) ∙ w.same;
            };
        stops = λ u e l.
            none_passed ts t (get_or ts q.first.index 0) (point_as k b held) w.left
            (omega (arith, e, ap (λ (j : ℕ). get_or ts j 0) q.index))
            (from_first ts w.left q.first q.rest rising w.stands q.all) ∙ w.same;
      }
    where
      step : (ts : List ℕ) (e : Entry) (es : List Entry) (s : Point) → passed t (point_as k b held) (get_or ts e.index 0) e.content ≡ s
          → all_passed ts t s es ≡ all_passed ts t (point_as k b held) (e ∷ es)
      step ts e es s f = unfold all_passed in ap (λ (a : Point). all_passed ts t a es) (sym f)

      from_first : (ts : List ℕ) (l : List Entry) (e : Entry) (es : List Entry) → Rising ts → Standing k b (length ts) p to i l → l ≡ e ∷ es → InOrder ts (get_or ts e.index 0) l
      from_first ts l e es r s q =
          let f : EntriesFit k (length ts) i s.top (e ∷ es) = subst (EntriesFit k (length ts) i s.top) q s.fits in
          rw q (omega arith, in_order k ts e.index s.top es r f.1 f.0.inside)

  pub passing-bad : p < to → change_at k b p ≡ std.None → ⊥
  passing-bad h e =
      never-bad k b (length (block_at (image_in b) n).times) p to i y (times-most n at b y o w.standing) h w.left w.stands e

  none_left : (es : List Entry) → Standing k b (length (block_at (image_in b) n).times) p to i es → to ≤ p → es ≡ []
  unfolding stream_bytes
  none_left [] s h = refl
  none_left (e ∷ es) s h =
      let l = change-long k (e.index - i) e.content s.fits.0.content in
      let z : p ≡ to = omega (arith, s.ordered) in
      absurd (omega (
        arith,
        length-drop p b,
        length-drop to b,
        s.inside,
        ap length s.bytes,
        length-append (stream_bytes k i (e ∷ es)) (drop to b),
        length-append (change_bytes k (e.index - i) e.content) (stream_bytes k e.index es),
      ))

  pub passing-ends : to ≤ p → Passed k b g at t start held n
  passing-ends h =
      let ts : List ℕ = (block_at (image_in b) n).times in
      at-end ts ∙ sym (ap (all_passed ts t (point_as k b held)) (none_left w.left w.stands h)) ∙ w.same
    where
      at-end : (ts : List ℕ) → point_as k b held ≡ all_passed ts t (point_as k b held) []
      at-end ts = unfold all_passed in refl

-- ---- a turn over the blocks

pub blocks-next : (t g k : ℕ) (s r : Point) (bs : List (Block (List Entry))) → k < length bs
    → r ≡ all_passed (get_or bs k (block [] [])).times t s (entries_in (part_at (get_or bs k (block [] [])) g))
    → blocks_passed t g r (drop (suc k) bs) ≡ blocks_passed t g s (drop k bs)
unfolding blocks_passed
blocks-next t g k s r bs h e = rw (drop-cons bs k (block [] []) h, e) refl

pub blocks_end : (t g k : ℕ) (s : Point) (bs : List (Block (List Entry))) → k ≡ length bs → s ≡ blocks_passed t g s (drop k bs)
unfolding blocks_passed
blocks_end t g k s bs e = rw (e, drop-length bs) refl
