-- How an image grows: a stream by a change at its end, blocks by a block. What fits still fits with more times and a larger top class;
-- and of parts and blocks that fit, each one does.
-- Assumes nothing.
use Prim.Native.Nat.{ℕ, zero, suc, ◌-◌, ◌≤◌, ◌<◌}
use mathlib.Core.Path.{◌≡◌, refl, sym, ap, ◌∙◌}
use mathlib.Core.List.{List, [], ◌∷◌, ◌++◌, append_assoc, append-nil}
use mathlib.Core.Option.{Option, some, none}
use native.Mathlib.Omega.{arith}
use lib.ListN.{length, get_or}
use Rattle.lists.specs.Last.{last_or}
use Rattle.signal.specs.declared.kind.SignalEncoding.{SignalEncoding}
use Rattle.signal.specs.declared.kind.SignalEncoding.TheVariants.{Absent}
use Rattle.stream.specs.Stream.{change_bytes}
use Rattle.stream.specs.Entries.{Entry, stream_bytes}
use Rattle.image.specs.Block.{Part, Block, block_bytes}
use Rattle.image.specs.Image.{streamed, blocks_bytes}
use Rattle.codec.specs.Valid.{EntryFits, EntriesFit, OptionFits, PartsFit, BlockFits, BlocksFit}
use Rattle.codec.specs.Ends.{end_after, last_index}

-- ---- a stream

pub stream-more : (k : SignalEncoding) (i : ℕ) (l : List Entry) (e : Entry)
    → stream_bytes k i (l ++ e ∷ []) ≡ stream_bytes k i l ++ change_bytes k (e.index - last_index i l) e.content
unfolding stream_bytes last_index
stream-more k i [] e = append-nil (change_bytes k (e.index - i) e.content)
stream-more k i (x ∷ l) e =
    ap (λ (t : List ℕ). change_bytes k (x.index - i) x.content ++ t) (stream-more k x.index l e)
    ∙ sym (append_assoc (change_bytes k (x.index - i) x.content) (stream_bytes k x.index l) (change_bytes k (e.index - last_index x.index l) e.content))

pub entries-more : (k : SignalEncoding) (n i top : ℕ) (l : List Entry) (e : Entry) → EntriesFit k n i top l → EntryFits k n (last_index i l) top e
    → EntriesFit k n i top (l ++ e ∷ [])
unfolding last_index
entries-more k n i top [] e f g = (g, tt)
entries-more k n i top (x ∷ l) e f g = (f.0, entries-more k n x.index top l e f.1 g)

pub entries-wider : (k : SignalEncoding) (n m i top t : ℕ) (l : List Entry) → n ≤ m → top ≤ t → EntriesFit k n i top l → EntriesFit k m i t l
entries-wider k n m i top t [] h g f = tt
entries-wider k n m i top t (x ∷ l) h g f =
    let d = f.0 in (
      record { later = d.later; inside = omega (arith, d.inside); content = d.content; class = omega (arith, d.class) },
      entries-wider k n m x.index top t l h g f.1,
    )

-- ---- the parts of a block, by signal number

pub parts-each : (n : ℕ) (ks : List SignalEncoding) (ps : List (Option (Part (List Entry)))) → PartsFit n ks ps → (g : ℕ) → OptionFits (get_or ks g Absent) n (get_or ps g none)
parts-each n [] [] f g = tt
parts-each n [] (p ∷ ps) f g = absurd f
parts-each n (k ∷ ks) [] f g = absurd f
parts-each n (k ∷ ks) (p ∷ ps) f zero = f.0
parts-each n (k ∷ ks) (p ∷ ps) f (suc g) = parts-each n ks ps f.1 g

pub each-parts : (n : ℕ) (ks : List SignalEncoding) (ps : List (Option (Part (List Entry)))) → length ps ≡ length ks
    → ((g : ℕ) → g < length ks → OptionFits (get_or ks g Absent) n (get_or ps g none)) → PartsFit n ks ps
each-parts n [] [] e f = tt
each-parts n [] (p ∷ ps) e f = absurd (omega arith)
each-parts n (k ∷ ks) [] e f = absurd (omega arith)
each-parts n (k ∷ ks) (p ∷ ps) e f = (f 0 (omega arith), each-parts n ks ps (omega arith) (λ g h. f (suc g) (omega arith)))

pub parts-count : (n : ℕ) (ks : List SignalEncoding) (ps : List (Option (Part (List Entry)))) → PartsFit n ks ps → length ps ≡ length ks
parts-count n [] [] f = refl
parts-count n [] (p ∷ ps) f = absurd f
parts-count n (k ∷ ks) [] f = absurd f
parts-count n (k ∷ ks) (p ∷ ps) f = ap suc (parts-count n ks ps f.1)

-- ---- blocks

pub blocks-append : (ks : List SignalEncoding) (bs cs : List (Block (List Entry))) → blocks_bytes ks (bs ++ cs) ≡ blocks_bytes ks bs ++ blocks_bytes ks cs
unfolding blocks_bytes
blocks-append ks [] cs = refl
blocks-append ks (b ∷ bs) cs =
    rw (blocks-append ks bs cs) (sym (append_assoc (block_bytes (streamed ks b)) (blocks_bytes ks bs) (blocks_bytes ks cs)))

pub blocks-one : (ks : List SignalEncoding) (b : Block (List Entry)) → blocks_bytes ks (b ∷ []) ≡ block_bytes (streamed ks b)
unfolding blocks_bytes
blocks-one ks b = append-nil (block_bytes (streamed ks b))

module _ (limit : ℕ) (ks : List SignalEncoding) where
  -- a block among blocks that fit
  pub blocks-each : (end : Option ℕ) (bs : List (Block (List Entry))) (past : Block (List Entry)) → BlocksFit limit ks end bs
      → (n : ℕ) → n < length bs → BlockFits limit ks (get_or bs n past)
  blocks-each end [] past f n h = absurd (omega arith)
  blocks-each end (b ∷ bs) past f zero h = f.1.0
  blocks-each end (b ∷ bs) past f (suc n) h = blocks-each (some (last_or 0 b.times)) bs past f.1.1 n (omega arith)

  -- blocks, and others that start at or after their end
  pub blocks-join : (end : Option ℕ) (bs cs : List (Block (List Entry))) → BlocksFit limit ks end bs → BlocksFit limit ks (end_after end bs) cs → BlocksFit limit ks end (bs ++ cs)
  unfolding end_after
  blocks-join end [] cs f g = g
  blocks-join end (b ∷ bs) cs f g = (f.0, (f.1.0, blocks-join (some (last_or 0 b.times)) bs cs f.1.1 g))

  -- the first block of an image may start anywhere
  pub blocks-first : (end : Option ℕ) (bs : List (Block (List Entry))) → BlocksFit limit ks end bs → BlocksFit limit ks none bs
  blocks-first end [] f = tt
  blocks-first end (b ∷ bs) f = (tt, f.1)
