-- Passing all blocks of a signal, each with its own times, points to the entry that `last_up_to` finds in the combined table among those that
-- loading keeps; from a block on that begins after t nothing is passed.
-- Assumes nothing.
use Prim.Native.Nat.{ℕ, zero, suc, ◌+◌, ◌-◌, ◌≤◌, ◌<◌}
use mathlib.Core.Path.{◌≡◌, refl, sym, ap, ◌∙◌}
use mathlib.Core.Bool.{Bool, true, false}
use mathlib.Core.List.{List, [], ◌∷◌, ◌++◌, append_assoc, append-nil}
use mathlib.Core.Option.{Option, some, none}
use native.Mathlib.Omega.{arith}
use borrow.Author.Tests.{eqb-true}
use lib.Dec.{eqb}
use lib.ListN.{length, get_or, drop, length-append, get_or-append}
use lib.Seq.{get_or-append-add}
use Rattle.lists.specs.Choice.{pick}
use Rattle.lists.specs.Last.{last_or}
use Rattle.lists.proofs.LastLaws.{last_of}
use Rattle.signal.specs.declared.kind.SignalEncoding.{SignalEncoding}
use Rattle.signal.specs.declared.kind.SignalEncoding.TheVariants.{Absent}
use Rattle.stream.specs.Entries.{Entry}
use Rattle.image.specs.Block.{Part, Block, block, part_bytes, data_of}
use Rattle.image.specs.Image.{streamed_part, streamed_parts}
use Rattle.codec.specs.Valid.{RisingFrom, Rising, EntriesFit, OptionFits, PartsFit, BlockFits, Starts, BlocksFit}
use Rattle.codec.proofs.StreamLaws.{stream-long}
use Rattle.codec.proofs.Growth.{parts-each}
use Rattle.loaded.specs.Opener.{part_at}
use Rattle.loaded.specs.Loading.{overlap, join_times, moved, Load, load, entries_in, top_in, load_block, load_from, loads}
use Rattle.loaded.specs.Reader.{last_up_to}
use Rattle.walk_part.proofs.PartLaws.{entries_fit}
use Rattle.cursor_point.specs.Point.{Point, unpointed, passed, all_passed, blocks_passed}
use Rattle.cursor_point.proofs.PointLaws.{holding, UpTo, InOrder, up-later, order-earlier, pushed-up, passed-pushed, none_passed}

-- ---- a block's times in the combined table

at_last : (x : ℕ) (l r : List ℕ) → get_or ((x ∷ l) ++ r) (length l) 0 ≡ last_or x l
unfolding last_or
at_last x [] r = refl
at_last x (y ∷ l) r = at_last y l r

joined_at : (tb ts rest : List ℕ) (i : ℕ) → i < length ts → get_or (join_times tb ts ++ rest) (length tb - overlap tb ts + i) 0 ≡ get_or ts i 0
joined_at [] ts rest i h = let z : 0 - 0 + i ≡ i = omega arith in ap (λ (n : ℕ). get_or (ts ++ rest) n 0) z ∙ get_or-append ts rest 0 i h
joined_at (x ∷ l) [] rest i h = absurd (omega arith)
joined_at (x ∷ l) (u ∷ us) rest i h = by (eqb u (last_or x l)) refl i h
  where
    by : (b : Bool) → eqb u (last_or x l) ≡ b → (i : ℕ) → i < suc (length us)
        → get_or (((x ∷ l) ++ drop (pick b 1 0) (u ∷ us)) ++ rest) (suc (length l) - pick b 1 0 + i) 0 ≡ get_or (u ∷ us) i 0
    by true e zero h =
        let z : suc (length l) - 1 + 0 ≡ length l = omega arith in
        ap (λ (n : ℕ). get_or (((x ∷ l) ++ us) ++ rest) n 0) z ∙ ap (λ (m : List ℕ). get_or m (length l) 0) (append_assoc (x ∷ l) us rest) ∙ at_last x l (us ++ rest) ∙ sym (eqb-true u (last_or x l) e)
    by true e (suc i) h =
        let z : suc (length l) - 1 + suc i ≡ suc (length l) + i = omega arith in
        ap (λ (n : ℕ). get_or (((x ∷ l) ++ us) ++ rest) n 0) z ∙ ap (λ (m : List ℕ). get_or m (suc (length l) + i) 0) (append_assoc (x ∷ l) us rest)
        ∙ get_or-append-add (x ∷ l) (us ++ rest) i 0 ∙ get_or-append us rest 0 i (omega arith)
    by false e i h =
        let z : suc (length l) - 0 + i ≡ suc (length l) + i = omega arith in
        ap (λ (n : ℕ). get_or (((x ∷ l) ++ (u ∷ us)) ++ rest) n 0) z ∙ ap (λ (m : List ℕ). get_or m (suc (length l) + i) 0) (append_assoc (x ∷ l) (u ∷ us) rest)
        ∙ get_or-append-add (x ∷ l) ((u ∷ us) ++ rest) i 0 ∙ get_or-append (u ∷ us) rest 0 i h

-- ---- entries whose indices are below a number

abbrev pub Inside : ℕ → List Entry → Type 0
Inside n [] = Unit {0}
Inside n (e ∷ es) = (e.index < n) × Inside n es

passed-moved : (ts all : List ℕ) (t m : ℕ) (s : Point) (es : List Entry) → ((i : ℕ) → i < length ts → get_or all (m + i) 0 ≡ get_or ts i 0) → Inside (length ts) es
    → all_passed ts t s es ≡ all_passed all t s (moved m es)
unfolding all_passed moved
passed-moved ts all t m s [] h k = refl
passed-moved ts all t m s (e ∷ es) h k =
    ap (λ (u : ℕ). all_passed ts t (passed t s u e.content) es) (sym (h e.index k.0))
    ∙ passed-moved ts all t m (passed t s (get_or all (m + e.index) 0) e.content) es h k.1

entries-inside : (k : SignalEncoding) (n i top : ℕ) (es : List Entry) → EntriesFit k n i top es → Inside n es
entries-inside k n i top [] f = tt
entries-inside k n i top (e ∷ es) f = (f.0.inside, entries-inside k n e.index top es f.1)

order-moved : (ts all : List ℕ) (m u : ℕ) (es : List Entry) → ((i : ℕ) → i < length ts → get_or all (m + i) 0 ≡ get_or ts i 0) → Inside (length ts) es → InOrder ts u es
    → InOrder all u (moved m es)
unfolding moved
order-moved ts all m u [] h k r = tt
order-moved ts all m u (e ∷ es) h k r = rw (h e.index k.0) (r.0, order-moved ts all m (get_or ts e.index 0) es h k.1 r.1)

up-moved : (ts all : List ℕ) (m u : ℕ) (es : List Entry) → ((i : ℕ) → i < length ts → get_or all (m + i) 0 ≡ get_or ts i 0) → Inside (length ts) es → UpTo ts u es
    → UpTo all u (moved m es)
unfolding moved
up-moved ts all m u [] h k r = tt
up-moved ts all m u (e ∷ es) h k r = (rw (h e.index k.0) r.0, up-moved ts all m u es h k.1 r.1)

-- ---- the times of a block rise

rises-from : (x : ℕ) (l : List ℕ) (j : ℕ) → RisingFrom x l → j ≤ length l → x ≤ get_or (x ∷ l) j 0
rises-from x l zero r h = omega arith
rises-from x [] (suc j) r h = absurd (omega arith)
rises-from x (y ∷ l) (suc j) r h = omega (arith, r.0, rises-from y l j r.1 (omega arith))

rises : (ts : List ℕ) (i j : ℕ) → Rising ts → i ≤ j → j < length ts → get_or ts i 0 ≤ get_or ts j 0
rises [] i j r h k = absurd (omega arith)
rises (x ∷ l) zero j r h k = rises-from x l j r (omega arith)
rises (x ∷ l) (suc i) zero r h k = absurd (omega arith)
rises (x ∷ []) (suc i) (suc j) r h k = absurd (omega arith)
rises (x ∷ y ∷ l) (suc i) (suc j) r h k = rises (y ∷ l) i j r.1 (omega arith) (omega arith)

to_last : (ts : List ℕ) (i : ℕ) → Rising ts → i < length ts → get_or ts i 0 ≤ last_or 0 ts
to_last ts i r h = omega (arith, last_of 0 ts (omega arith), rises ts i (length ts - 1) r (omega arith) (omega arith))

pub in_order : (k : SignalEncoding) (ts : List ℕ) (i top : ℕ) (es : List Entry) → Rising ts → EntriesFit k (length ts) i top es → i < length ts → InOrder ts (get_or ts i 0) es
in_order k ts i top [] r f h = tt
in_order k ts i top (e ∷ es) r f h =
    (rises ts i e.index r f.0.later f.0.inside, in_order k ts e.index top es r f.1 f.0.inside)

up-to-last : (k : SignalEncoding) (ts : List ℕ) (i top : ℕ) (es : List Entry) → Rising ts → EntriesFit k (length ts) i top es → UpTo ts (last_or 0 ts) es
up-to-last k ts i top [] r f = tt
up-to-last k ts i top (e ∷ es) r f = (to_last ts e.index r f.0.inside, up-to-last k ts e.index top es r f.1)

-- the entries of a signal's part, whatever its top class
abbrev pub SignalFits : SignalEncoding → (n : ℕ) → List Entry → Type 0
SignalFits k n es = (top : ℕ) × EntriesFit k n 0 top es

pub part-fits : (n : ℕ) (ks : List SignalEncoding) (ps : List (Option (Part (List Entry)))) (g : ℕ) → PartsFit n ks ps
    → SignalFits (get_or ks g Absent) n (entries_in (get_or ps g none))
part-fits n ks ps g f =
    let k : SignalEncoding = get_or ks g Absent in
    let p : Option (Part (List Entry)) = get_or ps g none in
    (top_in p, entries_fit k n p (parts-each n ks ps f g))

-- ---- all blocks

times_more : (g : ℕ) (l : Load) (bs : List (Block (List Entry))) → (rest : List ℕ) × ((load_from g l bs).times ≡ l.times ++ rest)
unfolding load_from
times_more g l [] = ([], sym (append-nil l.times))
times_more g l (b ∷ bs) =
    let ih = times_more g (load_block g l b) bs in
    let d : List ℕ = drop (overlap l.times b.times) b.times in
    (d ++ ih.0, ih.1 ∙ append_assoc l.times d ih.0)

module _ (limit : ℕ) (ks : List SignalEncoding) (t g : ℕ) where
  -- the entries before a block are none after u, and the block begins at u or later
  block-loads : (all : List ℕ) (l : Load) (y : Block (List Entry)) (rest : List ℕ) (u : ℕ) → BlockFits limit ks y → UpTo all u l.entries → u ≤ get_or y.times 0 0
      → all ≡ join_times l.times y.times ++ rest
      → (all_passed y.times t (holding all t l.entries) (entries_in (part_at y g)) ≡ holding all t (load_block g l y).entries)
      × UpTo all (last_or 0 y.times) (load_block g l y).entries
  block-loads all l y rest u f w h e =
      let ts : List ℕ = y.times in
      let es : List Entry = entries_in (part_at y g) in
      let q = part-fits (length ts) ks y.parts g f.parts in
      let m : ℕ = length l.times - overlap l.times ts in
      let same : (i : ℕ) → i < length ts → get_or all (m + i) 0 ≡ get_or ts i 0 =
      λ i z. ap (λ (a : List ℕ). get_or a (m + i) 0) e ∙ joined_at l.times ts rest i z in
      let inside = entries-inside _ _ 0 q.0 es q.1 in
      let order = order-earlier ts u (get_or ts 0 0) es h (in_order _ ts 0 q.0 es f.rising q.1 (omega (arith, f.any))) in (
        passed-moved ts all t m (holding all t l.entries) es same inside ∙ passed-pushed all t u l.entries (moved m es) w (order-moved ts all m u es same inside order),
        pushed-up all (last_or 0 ts) l.entries (moved m es) (up-later all u (last_or 0 ts) l.entries (omega (arith, to_last ts 0 f.rising (omega (arith, f.any)))) w)
            (up-moved ts all m (last_or 0 ts) es same inside (up-to-last _ ts 0 q.0 es f.rising q.1)),
      )

  blocks-load : (all : List ℕ) (l : Load) (bs : List (Block (List Entry))) (end : Option ℕ) (u : ℕ) → ((ts : List ℕ) → Starts end ts → u ≤ get_or ts 0 0) → UpTo all u l.entries
      → BlocksFit limit ks end bs → all ≡ (load_from g l bs).times
      → blocks_passed t g (holding all t l.entries) bs ≡ holding all t (load_from g l bs).entries
  unfolding blocks_passed load_from
  blocks-load all l [] end u h w f e = refl
  blocks-load all l (y ∷ bs) end u h w f e =
      let r = times_more g (load_block g l y) bs in
      let b = block-loads all l y r.0 u f.1.0 w (h y.times f.0) (e ∙ r.1) in
      ap (λ (s : Point). blocks_passed t g s bs) b.0
      ∙ blocks-load all (load_block g l y) bs (some (last_or 0 y.times)) (last_or 0 y.times) (λ ts s. s) b.1 f.1.1 e

  pub points-loads : (bs : List (Block (List Entry))) → BlocksFit limit ks none bs
      → blocks_passed t g unpointed bs ≡ holding (loads g bs).times t (loads g bs).entries
  points-loads bs f =
      ap (λ (s : Point). blocks_passed t g s bs) (sym none-held)
      ∙ blocks-load (loads g bs).times (load [] [] 0) bs none 0 (λ ts s. omega arith) tt f refl
    where
      none-held : holding (loads g bs).times t [] ≡ unpointed
      none-held = unfold last_up_to in refl

  -- ---- blocks that begin after t

  all_above : (u : ℕ) (s : Point) (bs : List (Block (List Entry))) → BlocksFit limit ks (some u) bs → t < u → s ≡ blocks_passed t g s bs
  unfolding blocks_passed
  all_above u s [] f h = refl
  all_above u s (y ∷ bs) f h =
      let ts : List ℕ = y.times in
      let c = f.1.0 in
      let q = part-fits (length ts) ks y.parts g c.parts in
      let first = in_order _ ts 0 q.0 (entries_in (part_at y g)) c.rising q.1 (omega (arith, c.any)) in
      all_above (last_or 0 ts) s bs f.1.1 (omega (arith, f.0, to_last ts 0 c.rising (omega (arith, c.any))))
      ∙ ap (λ (r : Point). blocks_passed t g r bs) (none_passed ts t (get_or ts 0 0) s (entries_in (part_at y g)) (omega (arith, f.0)) first)

  pub blocks-above : (k : ℕ) (s : Point) (bs : List (Block (List Entry))) (end : Option ℕ) → BlocksFit limit ks end bs → k < length bs
      → t < get_or (get_or bs k (block [] [])).times 0 0 → s ≡ blocks_passed t g s (drop k bs)
  blocks-above k s [] end f h z = absurd (omega arith)
  blocks-above zero s (y ∷ bs) end f h z = all_above (get_or y.times 0 0) s (y ∷ bs) (omega arith, f.1) z
  blocks-above (suc k) s (y ∷ bs) end f h z = blocks-above k s bs _ f.1.1 (omega arith) z

-- ---- a signal has no more entries in a block than the block data bytes

option-short : (k : SignalEncoding) (n : ℕ) (p : Option (Part (List Entry))) → OptionFits k n p → length (entries_in p) ≤ length (part_bytes (streamed_part k p))
option-short k n none f = omega arith
option-short k n (some p) f = omega (arith, stream-long k n 0 p.top 0 p.stream f.entries)

pub parts-short : (n : ℕ) (ks : List SignalEncoding) (ps : List (Option (Part (List Entry)))) (g : ℕ) → PartsFit n ks ps
    → length (entries_in (get_or ps g none)) ≤ length (data_of (streamed_parts ks ps))
unfolding data_of streamed_parts
parts-short n [] [] g f = omega arith
parts-short n [] (p ∷ ps) g f = absurd f
parts-short n (k ∷ ks) [] g f = absurd f
parts-short n (k ∷ ks) (p ∷ ps) zero f = omega (arith, length-append (part_bytes (streamed_part k p)) (data_of (streamed_parts ks ps)), option-short k n p f.0)
parts-short n (k ∷ ks) (p ∷ ps) (suc g) f = omega (arith, length-append (part_bytes (streamed_part k p)) (data_of (streamed_parts ks ps)), parts-short n ks ps g f.1)
