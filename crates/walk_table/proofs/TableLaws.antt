-- The combined table of an accepted image: all times of each block but a first one that is the end before it.
-- Assumes nothing.
use Prim.Native.Nat.{ℕ, suc, ◌+◌, ◌-◌, ◌≤◌, ◌<◌}
use mathlib.Core.Path.{◌≡◌, refl, sym, ap, ◌∙◌}
use mathlib.Core.Bool.{Bool, true, false}
use mathlib.Core.List.{List, [], ◌∷◌, ◌++◌, append_assoc, append-nil}
use mathlib.Core.Option.{Option, some, none}
use native.Mathlib.Numerals.{add-one}
use native.Mathlib.Omega.{arith}
use borrow.Author.Tests.{eqb-true, lt-ltb, le-ltb}
use lib.Dec.{eqb}
use mir.Val.{bool_byte}
use lib.ListN.{length, get_or, set, drop, length-append, length-drop, drop_of_length-le}
use lib.Seq.{sets, drop-cons, drop-length}
use Rattle.lists.specs.Choice.{pick}
use Rattle.lists.specs.Last.{last_or}
use Rattle.lists.specs.Bytes.{Bytes}
use Rattle.lists.proofs.LastLaws.{last-append}
use Rattle.lists.proofs.SetsLaws.{sets-append}
use Rattle.signal.specs.declared.kind.SignalEncoding.{SignalEncoding}
use Rattle.stream.specs.Entries.{Entry}
use Rattle.image.specs.Block.{Block, block, block_bytes}
use Rattle.image.specs.Head.{image_limit}
use Rattle.image.specs.Image.{Image, streamed, blocks_bytes}
use Rattle.image.proofs.SizeLaws.{block_size_lem}
use Rattle.codec.specs.Valid.{BlocksFit}
use Rattle.loaded.specs.Opener.{block_at}
use Rattle.loaded.specs.Loading.{overlap, join_times, table_from}
use Rattle.loaded.specs.Reader.{refuse, counted, table_after, table_in}
use Rattle.walk.specs.Walk.{Opened, image_in, last_time, shared_times, added_times}
use Rattle.walk.proofs.HeadLaws.{means, head_in}
use Rattle.walk.proofs.BlockLaws.{any-time}

-- ---- what is shared

pub overlap-shared : (l ts : List ℕ) → overlap l ts ≡ shared_times (last_time l) ts
overlap-shared [] ts = refl
overlap-shared (x ∷ l) [] = refl
overlap-shared (x ∷ l) (t ∷ ts) = refl

pub shared-few : (end : Option ℕ) (ts : List ℕ) → shared_times end ts ≤ length ts
shared-few none ts = omega arith
shared-few (some t) [] = omega arith
shared-few (some t) (u ∷ ts) = by (eqb u t)
  where
    by : (b : Bool) → pick b 1 0 ≤ length (u ∷ ts)
    by true = omega arith
    by false = omega arith

-- one where the first of the times is the end
pub shared_end : (t end : ℕ) (ts : List ℕ) → 1 ≤ length ts → t ≡ get_or ts 0 0 → bool_byte (eqb t end) ≡ shared_times (some end) ts
shared_end t end [] h e = absurd (omega arith)
shared_end t end (u ∷ ts) h e = ap (λ (v : ℕ). bool_byte (eqb v end)) e ∙ by (eqb u end)
  where
    by : (b : Bool) → bool_byte b ≡ pick b 1 0
    by true = refl
    by false = refl

-- a table with a block's times ends as the block does
pub last-joined : (l ts : List ℕ) → 1 ≤ length ts → last_time (join_times l ts) ≡ some (last_or 0 ts)
unfolding last_or
last-joined l [] h = absurd (omega arith)
last-joined [] (t ∷ ts) h = refl
last-joined (x ∷ l) (t ∷ ts) h = by (eqb t (last_or x l)) refl
  where
    by : (b : Bool) → eqb t (last_or x l) ≡ b → last_time ((x ∷ l) ++ drop (pick b 1 0) (t ∷ ts)) ≡ some (last_or t ts)
    by true e = ap some (last-append x l ts ∙ ap (λ (d : ℕ). last_or d ts) (sym (eqb-true t (last_or x l) e)))
    by false e = ap some (last-append x l (t ∷ ts))

-- ---- the table

module _ (limit : ℕ) (ks : List SignalEncoding) where
  table_more : (end : Option ℕ) (bs : List (Block (List Entry))) (l : List ℕ) → BlocksFit limit ks end bs → table_from l bs ≡ l ++ added_times (last_time l) bs
  unfolding table_from added_times
  table_more end [] l f = sym (append-nil l)
  table_more end (y ∷ bs) l f =
      let ts = y.times in
      table_more (some (last_or 0 ts)) bs (join_times l ts) f.1.1
      ∙ ap (λ (e : Option ℕ). join_times l ts ++ added_times e bs) (last-joined l ts f.1.0.any)
      ∙ append_assoc l (drop (overlap l ts) ts) (added_times (some (last_or 0 ts)) bs)
      ∙ ap (λ (n : ℕ). l ++ (drop n ts ++ added_times (some (last_or 0 ts)) bs)) (overlap-shared l ts)

-- the table has no more times than the image bytes
joined_small : (end : Option ℕ) (ks : List SignalEncoding) (bs : List (Block (List Entry))) → length (added_times end bs) ≤ length (blocks_bytes ks bs)
unfolding added_times blocks_bytes
joined_small end ks [] = omega arith
joined_small end ks (y ∷ bs) =
    omega (
      arith,
      length-append (drop (shared_times end y.times) y.times) (added_times (some (last_or 0 y.times)) bs),
      length-drop (shared_times end y.times) y.times,
      length-append (block_bytes (streamed ks y)) (blocks_bytes ks bs),
      block_size_lem (streamed ks y),
      joined_small (some (last_or 0 y.times)) ks bs,
    )

-- ---- of an accepted image

pub table-in : (b : List ℕ) → Bytes b → Opened b → table_from [] (image_in b).blocks ≡ added_times none (image_in b).blocks
table-in b y o = let x = image_in b in table_more x.limit x.kinds none x.blocks [] (means b y o).valid.blocks

table-small : (b : List ℕ) → Bytes b → Opened b → length (added_times none (image_in b).blocks) ≤ image_limit
table-small b y o =
    let x = image_in b in
    let h = head_in b y o in
    omega (arith, joined_small none x.kinds x.blocks, h.size, h.most)

-- ---- a turn over the blocks

-- the times that block number k adds, and those of the blocks after it
joined-next : (end : Option ℕ) (k : ℕ) (bs : List (Block (List Entry))) → k < length bs → (ts : List ℕ) → ts ≡ (get_or bs k (block [] [])).times
    → added_times end (drop k bs) ≡ drop (shared_times end ts) ts ++ added_times (some (last_or 0 ts)) (drop (suc k) bs)
unfolding added_times
joined-next end k bs h ts e = rw (e, drop-cons bs k (block [] []) h) refl

joined-count : (end : Option ℕ) (k : ℕ) (bs : List (Block (List Entry))) → k < length bs → (ts : List ℕ) → ts ≡ (get_or bs k (block [] [])).times
    → length (added_times end (drop k bs)) ≡ length ts - shared_times end ts + length (added_times (some (last_or 0 ts)) (drop (suc k) bs))
joined-count end k bs h ts e =
    let n : ℕ = shared_times end ts in
    ap length (joined-next end k bs h ts e) ∙ length-append (drop n ts) (added_times (some (last_or 0 ts)) (drop (suc k) bs))
    ∙ ap (λ (m : ℕ). m + length (added_times (some (last_or 0 ts)) (drop (suc k) bs))) (length-drop n ts)

pub joined_end : (end : Option ℕ) (bs : List (Block (List Entry))) → added_times end (drop (length bs) bs) ≡ []
unfolding added_times
joined_end end bs = ap (added_times end) (drop-length bs)

pub joined-sets : (end : Option ℕ) (k p q skip u : ℕ) (bs : List (Block (List Entry))) (out next : List ℕ) → k < length bs
    → skip ≡ shared_times end (get_or bs k (block [] [])).times → u ≡ last_or 0 (get_or bs k (block [] [])).times
    → q ≡ p + (length (get_or bs k (block [] [])).times - skip) → next ≡ sets out p (drop skip (get_or bs k (block [] [])).times)
    → sets next q (added_times (some u) (drop (suc k) bs)) ≡ sets out p (added_times end (drop k bs))
joined-sets end k p q skip u bs out next h s l e f =
    let ts = (get_or bs k (block [] [])).times in
    let d : q ≡ p + length (drop skip ts) = e ∙ ap (λ (n : ℕ). p + n) (sym (length-drop skip ts)) in
    let j : added_times end (drop k bs) ≡ drop skip ts ++ added_times (some u) (drop (suc k) bs) =
    joined-next end k bs h ts refl ∙ rw (s, l) refl in
    rw (j, d, f) (sym (sets-append (drop skip ts) (added_times (some u) (drop (suc k) bs)) out p))

-- what a turn at block number k needs
pub record Turn (end : Option ℕ) (k : ℕ) (b : List ℕ) : Type 0 where
  pub any : 1 ≤ length (block_at (image_in b) k).times
  pub few : shared_times end (block_at (image_in b) k).times ≤ length (block_at (image_in b) k).times
  pub small : length (added_times none (image_in b).blocks) ≤ image_limit
  pub count :
      length (added_times end (drop k (image_in b).blocks))
      ≡ length (block_at (image_in b) k).times - shared_times end (block_at (image_in b) k).times
      + length (added_times (some (last_or 0 (block_at (image_in b) k).times)) (drop (suc k) (image_in b).blocks))

pub turn_at : (end : Option ℕ) (k : ℕ) (b : List ℕ) → Bytes b → Opened b → k < length (image_in b).blocks → Turn end k b
turn_at end k b y o h = record {
  any = any-time k b y o h;
  few = shared-few end (block_at (image_in b) k).times;
  small = table-small b y o;
  count = joined-count end k (image_in b).blocks h (block_at (image_in b) k).times refl;
}

-- ---- a turn over a block's times

pub put_next : (ts out : List ℕ) (i p v : ℕ) → i < length ts → v ≡ get_or ts i 0 → sets (set out p v) (p + 1) (drop (i + 1) ts) ≡ sets out p (drop i ts)
put_next ts out i p v h e = rw (add-one i, add-one p, e, drop-cons ts i 0 h) refl

pub put-end : (ts out : List ℕ) (i p : ℕ) → length ts ≤ i → sets out p (drop i ts) ≡ out
put-end ts out i p h = rw (drop_of_length-le ts h) refl

-- ---- the answer

pub table-refused : (x : Image) (out : List ℕ) (n : ℕ) → n ≡ length (table_from [] x.blocks) → length out < n → table_after (refuse 9) out ≡ table_in x out
unfolding table_in
table-refused x out n e h = rw (lt-ltb (length out) (length (table_from [] x.blocks)) (omega arith)) refl

pub table-written : (x : Image) (out next : List ℕ) (n : ℕ) → n ≡ length (table_from [] x.blocks) → n ≤ length out → next ≡ sets out 0 (table_from [] x.blocks)
    → table_after (counted n) next ≡ table_in x out
unfolding table_in
table-written x out next n e h f = rw (le-ltb (length out) (length (table_from [] x.blocks)) (omega arith), e, f) refl
