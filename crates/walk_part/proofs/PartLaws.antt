-- Where the parts of an accepted image's blocks stand, by the offsets that are kept plus one.
-- Assumes nothing.
use Prim.Native.Nat.{ℕ, zero, suc, ◌+◌, ◌-◌, ◌*◌, ◌≤◌, ◌<◌}
use mathlib.Core.Path.{◌≡◌, refl, sym, ap, ◌∙◌}
use mathlib.Core.Bool.{true}
use mathlib.Core.List.{List, [], ◌∷◌, ◌++◌, append_assoc}
use mathlib.Core.Option.{Option, some, none}
use native.Mathlib.Nat.{add-zero}
use native.Mathlib.Omega.{arith}
use lib.ListN.{length, get_or, take, drop, length-append, take-append-drop, get_or-eq_default}
use lib.Seq.{drop-cons, take-suc, take_all, take_at, drop-drop, get_or-drop}
use Rattle.lists.specs.Bytes.{Bytes}
use Rattle.lists.specs.Choice.{pick, is_some}
use Rattle.signal.specs.declared.kind.SignalEncoding.{SignalEncoding}
use Rattle.signal.specs.declared.kind.SignalEncoding.TheVariants.{Absent}
use Rattle.stream.specs.Entries.{Entry, stream_bytes}
use Rattle.image.specs.Block.{Part, Block, block, part_bytes, data_of, offsets_from, offset_place, block_size}
use Rattle.image.specs.Head.{image_limit}
use Rattle.image.specs.Image.{Image, streamed_part, streamed_parts}
use Rattle.image.proofs.SizeLaws.{length-offsets}
use Rattle.form.specs.Decide.{false-true}
use Rattle.form.proofs.WholeLaws.{none-some}
use Rattle.codec.specs.Valid.{EntriesFit, OptionFits, BlocksFit}
use Rattle.codec.specs.Parse.{parse}
use Rattle.codec.proofs.WrittenOut.{count-streamed}
use Rattle.codec.proofs.Growth.{parts-count}
use Rattle.loaded.specs.Opener.{kind_at, block_at, part_at, stream_in, stream_from, stream_of}
use Rattle.loaded.specs.Loading.{entries_in, top_in}
use Rattle.walk.specs.Walk.{Opened, image_from, image_in, block_place, parts_in, data_place, part_place, stream_place, BlockHere, PartHere}
use Rattle.walk.proofs.StandLaws.{Stands, stands-front, stands-back, Number, stands-number, stands-nth}
use Rattle.walk.proofs.HeadLaws.{means, head_in}
use Rattle.walk.proofs.BlockLaws.{here, next-size}
use Rattle.lists.specs.Last.{last_or}

-- ---- parts as bytes

data-append : (a c : List (Option (Part (List ℕ)))) → data_of (a ++ c) ≡ data_of a ++ data_of c
unfolding data_of
data-append [] c = refl
data-append (p ∷ a) c = rw (data-append a c) (sym (append_assoc (part_bytes p) (data_of a) (data_of c)))

data-one : (p : Option (Part (List ℕ))) → length (data_of (p ∷ [])) ≡ length (part_bytes p)
unfolding data_of
data-one p = length-append (part_bytes p) [] ∙ add-zero _

more_parts : (g : ℕ) (ps : List (Option (Part (List ℕ)))) → g < length ps
    → length (data_of (take (suc g) ps)) ≡ length (data_of (take g ps)) + length (part_bytes (get_or ps g none))
more_parts g ps h =
    ap (λ (l : List (Option (Part (List ℕ)))). length (data_of l)) (take-suc ps g none h)
    ∙ ap length (data-append (take g ps) (get_or ps g none ∷ []))
    ∙ omega (arith, length-append (data_of (take g ps)) (data_of (get_or ps g none ∷ [])), data-one (get_or ps g none))

part-stands : (g d : ℕ) (ps : List (Option (Part (List ℕ)))) (b : List ℕ) → g < length ps → Stands b d (data_of ps)
    → Stands b (d + length (data_of (take g ps))) (part_bytes (get_or ps g none))
unfolding data_of
part-stands g d ps b h s =
    let front : List ℕ = data_of (take g ps) in
    let e : data_of ps ≡ front ++ (part_bytes (get_or ps g none) ++ data_of (drop (suc g) ps)) =
    ap data_of (sym (take-append-drop g ps)) ∙ data-append (take g ps) (drop g ps) ∙ ap (λ (l : List (Option (Part (List ℕ)))). front ++ data_of l) (drop-cons ps g none h) in
    stands-front b _ (part_bytes (get_or ps g none)) (data_of (drop (suc g) ps)) (stands-back b d (length front) front _ refl (rw e at s))

-- an offset is at most the number of data bytes
offset-most : (g a : ℕ) (ps : List (Option (Part (List ℕ)))) → get_or (offsets_from a ps) g 0 ≤ a + length (data_of ps)
unfolding offsets_from data_of
offset-most g a [] = omega arith
offset-most zero a (none ∷ ps) = omega arith
offset-most zero a (some q ∷ ps) = omega (arith, length-append (part_bytes (some q)) (data_of ps))
offset-most (suc g) a (none ∷ ps) = offset-most g a ps
offset-most (suc g) a (some q ∷ ps) =
    omega (arith, length-append (part_bytes (some q)) (data_of ps), offset-most g (a + length (part_bytes (some q))) ps)

-- a signal without a part has the offset 0
offset-none : (g a : ℕ) (ps : List (Option (Part (List ℕ)))) → get_or ps g none ≡ none → get_or (offsets_from a ps) g 0 ≡ 0
unfolding offsets_from
offset-none g a [] e = refl
offset-none zero a (none ∷ ps) e = refl
offset-none zero a (some q ∷ ps) e = none-some (sym e)
offset-none (suc g) a (none ∷ ps) e = offset-none g a ps e
offset-none (suc g) a (some q ∷ ps) e = offset-none g (a + length (part_bytes (some q))) ps e

offset-some : (g a : ℕ) (ps : List (Option (Part (List ℕ)))) (p : Part (List ℕ)) → get_or ps g none ≡ some p
    → get_or (offsets_from a ps) g 0 ≡ suc (a + length (data_of (take g ps)))
unfolding offsets_from data_of
offset-some g a [] p e = none-some e
offset-some zero a (none ∷ ps) p e = none-some e
offset-some zero a (some q ∷ ps) p e = omega arith
offset-some (suc g) a (none ∷ ps) p e = offset-some g a ps p e
offset-some (suc g) a (some q ∷ ps) p e =
    omega (arith, length-append (part_bytes (some q)) (data_of (take g ps)), offset-some g (a + length (part_bytes (some q))) ps p e)

-- 0 is kept where there is no part, else the place plus one
pub record Kept (offset g : ℕ) (ps : List (Option (Part (List ℕ)))) : Type 0 where
  pub no_part : offset ≡ 0 → get_or ps g none ≡ none
  pub place : (offset ≡ 0 → ⊥) → offset ≡ suc (length (data_of (take g ps)))

kept_by : (g : ℕ) (ps : List (Option (Part (List ℕ)))) (p : Option (Part (List ℕ))) → get_or ps g none ≡ p → Kept (get_or (offsets_from 0 ps) g 0) g ps
kept_by g ps none e = record { no_part = λ z. e; place = λ f. absurd (f (offset-none g 0 ps e)) }
kept_by g ps (some q) e =
    let o = offset-some g 0 ps q e in
    record { no_part = λ z. absurd (omega arith); place = λ f. omega arith }

kept : (g : ℕ) (ps : List (Option (Part (List ℕ)))) → Kept (get_or (offsets_from 0 ps) g 0) g ps
kept g ps = kept_by g ps (get_or ps g none) refl

-- the stream of a signal is that of its entries
pub stream-entries : (k : SignalEncoding) (p : Option (Part (List Entry))) → stream_in k p ≡ stream_bytes k 0 (entries_in p)
unfolding stream_bytes
stream-entries k none = refl
stream-entries k (some p) = refl

pub entries_fit : (k : SignalEncoding) (n : ℕ) (p : Option (Part (List Entry))) → OptionFits k n p → EntriesFit k n 0 (top_in p) (entries_in p)
entries_fit k n none f = tt
entries_fit k n (some p) f = f.entries

-- ---- at a place where a block begins

pub offset_read : (n at g : ℕ) (b : List ℕ) → Bytes b → Opened b → BlockHere n at b → g < length (image_in b).kinds
    → Number b (at + offset_place g) 4 (get_or (offsets_from 0 (parts_in (image_in b) n)) g 0)
offset_read n at g b y o h k =
    let x = image_in b in
    let ps = parts_in x n in
    let i = here n at b y o h in
    let c = length-offsets 0 ps in
    let s = count-streamed x.kinds (block_at x n).parts in
    let w = stands-nth 4 (offsets_from 0 ps) b (at + 12) g (omega arith) i.offsets in
    let e : at + 12 + g * 4 ≡ at + offset_place g = omega arith in
    stands-number b (at + offset_place g) 4 (get_or (offsets_from 0 ps) g 0) (omega (arith, offset-most g 0 ps, i.most, (head_in b y o).most)) (rw e at w)

-- the part of a signal without one begins where the next one does
place_none : (x : Image) (n g : ℕ) → g < length x.kinds → get_or (parts_in x n) g none ≡ none → part_place x n (suc g) ≡ part_place x n g
unfolding part_place
place_none x n g h e =
    let ps = parts_in x n in
    let s = count-streamed x.kinds (block_at x n).parts in
    let z : length (part_bytes (get_or ps g none)) ≡ 0 = ap (λ (p : Option (Part (List ℕ))). length (part_bytes p)) e in
    omega (arith, more_parts g ps (omega arith))

place-offset : (x : Image) (n g offset : ℕ) → offset ≡ suc (length (data_of (take g (parts_in x n)))) → data_place x n + offset - 1 ≡ part_place x n g
unfolding part_place
place-offset x n g offset e = omega arith

pub place_end : (n at r : ℕ) (b : List ℕ) → Bytes b → Opened b → BlockHere n at b → r ≡ block_place (image_in b) (suc n)
    → r ≡ part_place (image_in b) n (length (image_in b).kinds)
unfolding part_place
place_end n at r b y o h e =
    let x = image_in b in
    let ps = parts_in x n in
    let s = count-streamed x.kinds (block_at x n).parts in
    let t : take (length x.kinds) ps ≡ ps = take_all (length x.kinds) ps (omega arith) in
    let d : length (data_of (take (length x.kinds) ps)) ≡ length (data_of ps) = ap (λ (l : List (Option (Part (List ℕ)))). length (data_of l)) t in
    omega (arith, next-size x n h.exists)

pub place_here : (x : Image) (n g offset start : ℕ) → start ≡ data_place x n → offset ≡ get_or (offsets_from 0 (parts_in x n)) g 0 → (offset ≡ 0 → ⊥)
    → start + offset - 1 ≡ part_place x n g
place_here x n g offset start d e f =
    let k = (kept g (parts_in x n)).place (λ z. f (e ∙ z)) in
    ap (λ (a : ℕ). a + offset - 1) d ∙ place-offset x n g offset (e ∙ k)

pub place-past : (x : Image) (n g offset : ℕ) → g < length x.kinds → offset ≡ get_or (offsets_from 0 (parts_in x n)) g 0 → offset ≡ 0
    → part_place x n (suc g) ≡ part_place x n g
place-past x n g offset h e z = place_none x n g h ((kept g (parts_in x n)).no_part (sym e ∙ z))

pub start-most : (n at : ℕ) (b : List ℕ) → Bytes b → Opened b → BlockHere n at b → data_place (image_in b) n ≤ image_limit
start-most n at b y o h = omega (arith, h.place, (here n at b y o h).most, (head_in b y o).most)

-- ---- the stream of a signal

-- the part as bytes is that of the part
streamed-at : (ks : List SignalEncoding) (ps : List (Option (Part (List Entry)))) (g : ℕ) → g < length ks
    → get_or (streamed_parts ks ps) g none ≡ streamed_part (get_or ks g Absent) (get_or ps g none)
unfolding streamed_parts
streamed-at [] ps g h = absurd (omega arith)
streamed-at (k ∷ ks) [] zero h = refl
streamed-at (k ∷ ks) [] (suc g) h = streamed-at ks [] g (omega arith)
streamed-at (k ∷ ks) (p ∷ ps) zero h = refl
streamed-at (k ∷ ks) (p ∷ ps) (suc g) h = streamed-at ks ps g (omega arith)

not_there : {B : Type 0} {p : Option (Part (List Entry))} → p ≡ none → is_some p ≡ true → B
not_there e h = absurd (false-true (ap is_some (sym e) ∙ h))

place-by : (n g : ℕ) (b : List ℕ) {p : Option (Part (List Entry))} → part_at (block_at (image_in b) n) g ≡ p
    → stream_place (image_in b) n g ≡ pick (is_some p) (suc (part_place (image_in b) n g)) 0
place-by n g b e = ap (λ (p : Option (Part (List Entry))). pick (is_some p) (suc (part_place (image_in b) n g)) 0) e

no_part : (n g : ℕ) (b : List ℕ) → part_at (block_at (image_in b) n) g ≡ none → PartHere 0 0 0 n g b
no_part n g b e = record {
  ordered = omega arith;
  inside = omega arith;
  stream = ap (stream_in (kind_at (image_in b) g)) (sym e);
  class = ap top_in (sym e);
  begin = sym (place-by n g b e);
  end = not_there e;
}

none-back : (k : SignalEncoding) (p : Option (Part (List Entry))) → streamed_part k p ≡ none → p ≡ none
none-back k none e = refl
none-back k (some q) e = none-some (sym e)

stream-found : (b : List ℕ) (n g : ℕ) (p : Option (Part (List Entry))) (a to : ℕ) → part_at (block_at (image_in b) n) g ≡ p → (p ≡ none → ⊥)
    → Stands b a (part_bytes (streamed_part (kind_at (image_in b) g) p)) → to ≡ a + length (part_bytes (streamed_part (kind_at (image_in b) g) p))
    → a ≡ part_place (image_in b) n g → to ≡ part_place (image_in b) n (suc g) → PartHere (a + 1) to (get_or b a 0) n g b
stream-found b n g none a to i f s e u v = absurd (f refl)
stream-found b n g (some q) a to i f s e u v =
    let k = kind_at (image_in b) g in
    let l : List ℕ = stream_bytes k 0 q.stream in
    let d : drop (a + 1) b ≡ l ++ s.rest = sym (drop-drop 1 a b) ∙ ap (drop 1) s.bytes in
    let m : to - (a + 1) ≡ length l = omega arith in
    let z : get_or b a 0 ≡ get_or (drop a b) 0 0 = ap (λ (i : ℕ). get_or b i 0) (sym (add-zero a)) ∙ sym (get_or-drop a b 0 0) in
    let before : a + 1 ≡ suc (part_place (image_in b) n g) = omega arith in
    record {
      ordered = omega arith;
      inside = omega (arith, s.inside);
      stream = rw (m, d) (take_at l s.rest (length l) refl) ∙ ap (stream_in k) (sym i);
      class = z ∙ ap (λ (l : List ℕ). get_or l 0 0) s.bytes ∙ ap top_in (sym i);
      begin = before ∙ sym (place-by n g b i);
      end = λ t. v;
    }

found_none : (n g : ℕ) (b : List ℕ) → g < length (image_in b).kinds → get_or (parts_in (image_in b) n) g none ≡ none → PartHere 0 0 0 n g b
found_none n g b h e =
    let x = image_in b in
    no_part n g b (none-back (kind_at x g) (part_at (block_at x n) g) (sym (streamed-at x.kinds (block_at x n).parts g h) ∙ e))

-- else the part stands from its place to that of the next one
found_some : (n at g offset : ℕ) (b : List ℕ) → Bytes b → Opened b → BlockHere n at b → g < length (image_in b).kinds
    → offset ≡ get_or (offsets_from 0 (parts_in (image_in b) n)) g 0 → (offset ≡ 0 → ⊥)
    → PartHere (part_place (image_in b) n g + 1) (part_place (image_in b) n (suc g)) (get_or b (part_place (image_in b) n g) 0) n g b
unfolding part_place
found_some n at g offset b y o h k e f =
    let x = image_in b in
    let ps = parts_in x n in
    let p = part_at (block_at x n) g in
    let c = count-streamed x.kinds (block_at x n).parts in
    let q = streamed-at x.kinds (block_at x n).parts g k in
    let d : data_place x n ≡ at + block_size (length x.kinds) (length (block_at x n).times) 0 = omega (arith, h.place) in
    let s = part-stands g (data_place x n) ps b (omega arith) (rw d (here n at b y o h).bytes) in
    let any : p ≡ none → ⊥ = λ z. f (e ∙ offset-none g 0 ps (q ∙ ap (streamed_part (kind_at x g)) z)) in
    stream-found b n g p _ _ refl any (rw q at s) (omega (arith, more_parts g ps (omega arith), ap (λ (p : Option (Part (List ℕ))). length (part_bytes p)) q)) refl refl

pub found_at : (n at g offset start to : ℕ) (b : List ℕ) → Bytes b → Opened b → BlockHere n at b → g < length (image_in b).kinds → start ≡ data_place (image_in b) n
    → offset ≡ get_or (offsets_from 0 (parts_in (image_in b) n)) g 0 → (offset ≡ 0 → ⊥) → to ≡ part_place (image_in b) n (suc g)
    → PartHere (start + offset - 1 + 1) to (get_or b (start + offset - 1) 0) n g b
found_at n at g offset start to b y o h k d e f t =
    rw (t, place_here (image_in b) n g offset start d e f) (found_some n at g offset b y o h k e f)

-- a kept 0 says that there is none
pub found-zero : (n g offset : ℕ) (b : List ℕ) → g < length (image_in b).kinds → offset ≡ get_or (offsets_from 0 (parts_in (image_in b) n)) g 0 → offset ≡ 0
    → PartHere 0 0 0 n g b
found-zero n g offset b h e z = found_none n g b h ((kept g (parts_in (image_in b) n)).no_part (sym e ∙ z))

parts-long : (limit : ℕ) (ks : List SignalEncoding) (end : Option ℕ) (bs : List (Block (List Entry))) (n : ℕ)
    → BlocksFit limit ks end bs → length (get_or bs n (block [] [])).parts ≤ length ks
parts-long limit ks end [] n f = omega arith
parts-long limit ks end (y ∷ bs) zero f = omega (arith, parts-count _ ks y.parts f.1.0.parts)
parts-long limit ks end (y ∷ bs) (suc n) f = parts-long limit ks (some (last_or 0 y.times)) bs n f.1.1

-- a signal that does not exist has no part
pub found-past : (n g : ℕ) (b : List ℕ) → Bytes b → Opened b → length (image_in b).kinds ≤ g
    → PartHere 0 0 0 n g b
found-past n g b y o h =
    let x = image_in b in
    let l = parts-long x.limit x.kinds none x.blocks n (means b y o).valid.blocks in
    no_part n g b (get_or-eq_default (block_at x n).parts none (omega arith))

-- ---- by block number

stream-from : (p : Option Image) (n g : ℕ) → stream_from p n g ≡ stream_in (kind_at (image_from p) g) (part_at (block_at (image_from p) n) g)
stream-from none n g = refl
stream-from (some x) n g = refl

pub stream-of : (b : List ℕ) (n g : ℕ) → stream_of b n g ≡ stream_in (kind_at (image_in b) g) (part_at (block_at (image_in b) n) g)
unfolding stream_of image_in
stream-of b n g = stream-from (parse b) n g

-- past the blocks there is no part
pub stream-place-past : (b : List ℕ) (n g : ℕ) → length (image_in b).blocks ≤ n → 0 ≡ stream_place (image_in b) n g
stream-place-past b n g h =
    let x = image_in b in
    let e : block_at x n ≡ block [] [] = get_or-eq_default x.blocks (block [] []) h in
    sym (place-by n g b (ap (λ (y : Block (List Entry)). part_at y g) e))

pub stream-past : (b : List ℕ) (n g : ℕ) → length (image_in b).blocks ≤ n → [] ≡ stream_of b n g
stream-past b n g h =
    let x = image_in b in
    let e : block_at x n ≡ block [] [] = get_or-eq_default x.blocks (block [] []) h in
    sym (stream-of b n g ∙ ap (λ (y : Block (List Entry)). stream_in (kind_at x g) (part_at y g)) e)
