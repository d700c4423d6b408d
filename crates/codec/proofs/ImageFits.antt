-- A valid image can be written: what document 01 asks of an image bounds every number in its bytes.
-- Assumes nothing.
use Prim.Native.Nat.{ℕ, zero, suc, ◌+◌, ◌-◌, ◌≤◌, ◌<◌, ◌^◌}
use mathlib.Core.Path.{◌≡◌, refl, ap, ◌∙◌}
use mathlib.Core.Bool.{true}
use mathlib.Core.List.{List, [], ◌∷◌, ◌++◌, map}
use mathlib.Core.Option.{Option, some, none}
use native.Mathlib.Omega.{arith}
use borrow.Author.Tests.{le-leb, leb-true, eq-eqb}
use lib.ListN.{length, get_or, length-append, length-map}
use Rattle.numbers.specs.LittleEndian.{le}
use Rattle.numbers.proofs.LittleEndianLaws.{length-le}
use Rattle.lists.specs.Last.{last_or}
use Rattle.signal.specs.declared.kind.SignalEncoding.{SignalEncoding}
use Rattle.signal.specs.declared.kind.SignalEncoding.TheVariants.{BitVector, Real, Absent}
use Rattle.signal.specs.Kind.{known_kind, top_limit}
use Rattle.stream.specs.Entries.{Entry, stream_bytes}
use Rattle.image.specs.Block.{Part, Block, les, block_size, block_bytes}
use Rattle.image.specs.Head.{kind_number, head_size, head_bytes, image_limit}
use Rattle.image.specs.Image.{Image, streamed_parts, streamed, blocks_bytes, image_bytes}
use Rattle.image.proofs.SizeLaws.{length-les, block_size_lem}
use Rattle.codec.specs.Valid.{EachBelow, KnownKinds, EntryFits, EntriesFit, PartFits, PartsFit, BlockFits, BlocksFit, Valid}
use Rattle.form.specs.Form.{OkChain, repeat, each, uint}
use Rattle.codec.specs.Layout.{lengths_in, offsets, data_size, layout, layout_form}
use Rattle.codec.specs.ImageForm.{entry_form, stream, part_form, block_form, kind_form, Head, head_form, head_of, image_form}
use Rattle.codec.proofs.LayoutLaws.{lengths-of, size-parts, count-parts, count-offsets}
use Rattle.codec.proofs.StreamLaws.{stream-written}
use Rattle.codec.proofs.WrittenOut.{count-streamed, blocks-written}

-- ---- kinds

-- also past the last
pub known_at : (ks : List SignalEncoding) (g : ℕ) → KnownKinds ks → known_kind (get_or ks g Absent) ≡ true
known_at [] g h = refl
known_at (k ∷ ks) zero h = h.0
known_at (k ∷ ks) (suc g) h = known_at ks g h.1

-- ---- lists of numbers

uints-fit : (w n : ℕ) (l : List ℕ) → length l ≡ n → EachBelow (256 ^ w) l → (repeat n (uint w)).Ok l
unfolding repeat
uints-fit w zero [] e a = refl
uints-fit w zero (x ∷ l) e a = absurd (omega arith)
uints-fit w (suc n) [] e a = absurd (omega arith)
uints-fit w (suc n) (x ∷ l) e a = (a.0, uints-fit w n l (omega arith) a.1)

-- ---- a stream

entry-fits : (k : SignalEncoding) (n j top : ℕ) (e : Entry) → n ≤ 65535 → EntryFits k n j top e → (entry_form k j).Ok e
entry-fits k n j top e small f =
    let d : j + (e.index - j) ≡ e.index = omega (arith, f.later) in
    (record { small = omega (arith, f.inside); fits = f.content }, rw d refl)

-- a list of entries at index i or later, after one at index j
entries_fit : (k : SignalEncoding) (n j i top : ℕ) (l : List Entry) → n ≤ 65535 → j ≤ i → EntriesFit k n i top l → OkChain (entry_form k) (λ e. e.index) j l
unfolding OkChain
entries_fit k n j i top [] small h f = tt
entries_fit k n j i top (e ∷ l) small h f =
    let first : EntryFits k n j top e = record { later = omega (arith, f.0.later); inside = f.0.inside; content = f.0.content; class = f.0.class } in
    (entry-fits k n j top e small first, entries_fit k n e.index e.index top l small (omega arith) f.1)

stream-fits : (k : SignalEncoding) (n i top : ℕ) (l : List Entry) → n ≤ 65535 → EntriesFit k n i top l → (stream k).Fit l
unfolding stream
stream-fits k n i top l small f = entries_fit k n 0 i top l small (omega arith) f

-- ---- a block

pub top_small : (k : SignalEncoding) → top_limit k ≤ 2
top_small (BitVector zero) = omega arith
top_small (BitVector (suc w)) = omega arith
top_small Real = omega arith
top_small Absent = omega arith

part-fits : (k : SignalEncoding) (n : ℕ) (p : Part (List Entry)) → n ≤ 65535 → PartFits k n p
    → (part_form k (some (length (stream_bytes k 0 p.stream)))).Ok (some p)
part-fits k n p small f =
    ((omega (arith, top_small k, f.most), (stream-fits k n 0 p.top p.stream small f.entries, ap length (stream-written k p.stream))), refl)

parts-fit : (n : ℕ) (ks : List SignalEncoding) (ps : List (Option (Part (List Entry)))) → n ≤ 65535 → PartsFit n ks ps
    → (each part_form ks (lengths_in (streamed_parts ks ps))).Ok ps
unfolding each lengths_in streamed_parts
parts-fit n [] [] small f = refl
parts-fit n [] (p ∷ ps) small f = absurd f
parts-fit n (k ∷ ks) [] small f = absurd f
parts-fit n (k ∷ ks) (none ∷ ps) small f = (refl, parts-fit n ks ps small f.1)
parts-fit n (k ∷ ks) (some p ∷ ps) small f = (part-fits k n p small f.0, parts-fit n ks ps small f.1)

offsets-below : (m a : ℕ) (l : List (Option ℕ)) → a + data_size l < m → EachBelow m (offsets a l)
unfolding offsets data_size
offsets-below m a [] h = tt
offsets-below m a (none ∷ l) h = (omega arith, offsets-below m a l h)
offsets-below m a (some n ∷ l) h = (omega arith, offsets-below m (a + suc n) l (omega arith))

layout-fits : (s t : ℕ) (l : List (Option ℕ)) → length l ≡ s → block_size s t (data_size l) < 2 ^ 32 → (layout_form s).Ok (layout t l)
unfolding layout_form
layout-fits s t l e h =
    let n : ℕ = block_size s t (data_size l) in
    let d : n - block_size s t 0 ≡ 0 + data_size l = omega arith in (
      (h, (omega arith, (omega arith, uints-fit 4 s (offsets 0 l) (count-offsets 0 l ∙ e) (offsets-below (2 ^ 32) 0 l (omega arith))))),
      rw (eq-eqb s s refl, le-leb (block_size s t 0) n (omega arith), d, lengths-of 0 l) refl,
    )

module _ (limit : ℕ) (ks : List SignalEncoding) (high : limit ≤ 65535) where
  block-fits : (b : Block (List Entry)) → BlockFits limit ks b → length (block_bytes (streamed ks b)) ≤ image_limit → (block_form ks).Ok b
  unfolding block_form
  block-fits b f h =
      let t : ℕ = length b.times in
      let n : t ≤ 65535 = omega (arith, f.few) in
      let ps : List (Option (Part (List ℕ))) = streamed_parts ks b.parts in
      let s : length ps ≡ length ks = count-streamed ks b.parts in
      let e = block_size_lem (streamed ks b) in
      let z = size-parts ps in (
        layout-fits (length ks) t (lengths_in ps) (count-parts ps ∙ s) (omega arith),
        ((uints-fit 8 t b.times refl f.small, parts-fit t ks b.parts n f.parts), refl),
      )

  blocks-fit : (end : Option ℕ) (bs : List (Block (List Entry))) → BlocksFit limit ks end bs
      → length (blocks_bytes ks bs) ≤ image_limit → (repeat (length bs) (block_form ks)).Ok bs
  unfolding repeat blocks_bytes
  blocks-fit end [] f h = refl
  blocks-fit end (b ∷ bs) f h =
      let e = length-append (block_bytes (streamed ks b)) (blocks_bytes ks bs) in
      (block-fits b f.1.0 (omega arith), blocks-fit (some (last_or 0 b.times)) bs f.1.1 (omega arith))

-- every block has a byte
pub blocks-count : (ks : List SignalEncoding) (bs : List (Block (List Entry))) → length bs ≤ length (blocks_bytes ks bs)
unfolding blocks_bytes
blocks-count ks [] = omega arith
blocks-count ks (b ∷ bs) =
    omega (arith, length-append (block_bytes (streamed ks b)) (blocks_bytes ks bs), block_size_lem (streamed ks b), blocks-count ks bs)

-- ---- the image

kind_fits : (k : SignalEncoding) → known_kind k ≡ true → kind_form.Ok k
kind_fits (BitVector w) h = let s = leb-true w 65536 h in (omega arith, rw h refl)
kind_fits Real h = (omega arith, refl)
kind_fits Absent h = (omega arith, refl)

kinds-fit : (l : List SignalEncoding) → KnownKinds l → (repeat (length l) kind_form).Ok l
unfolding repeat
kinds-fit [] h = refl
kinds-fit (k ∷ l) h = (kind_fits k h.0, kinds-fit l h.1)

pub head-size : (limit n total : ℕ) (ks : List SignalEncoding) → length (head_bytes limit n total ks) ≡ head_size (length ks)
unfolding head_bytes
head-size limit n total ks =
    let l : List ℕ = les 4 (map kind_number ks) in
    let s : ℕ = length ks in
    length-append (le 4 s) (le 4 limit ++ (le 4 n ++ (le 4 total ++ l)))
    ∙ omega (
      arith,
      length-append (le 4 limit) (le 4 n ++ (le 4 total ++ l)),
      length-append (le 4 n) (le 4 total ++ l),
      length-append (le 4 total) l,
      length-les 4 (map kind_number ks),
      length-map ks kind_number,
      length-le 4 s,
      length-le 4 limit,
      length-le 4 n,
      length-le 4 total,
    )

-- the total that the head says is the number of bytes
pub image-size : (x : Image) → length (image_bytes x) ≡ (head_of x).total
unfolding image_bytes
image-size x =
    length-append (head_bytes x.limit (length x.blocks) (head_of x).total x.kinds) (blocks_bytes x.kinds x.blocks)
    ∙ ap (λ (n : ℕ). n + length (blocks_bytes x.kinds x.blocks)) (head-size x.limit (length x.blocks) (head_of x).total x.kinds)

head-fits : (h : Head) → length h.kinds ≤ 65536 → h.limit ≤ 65535 → h.number < 2 ^ 32 → h.total < 2 ^ 32 → KnownKinds h.kinds → head_form.Ok h
unfolding head_form
head-fits h s l n t k = ((omega arith, (omega arith, (n, t))), (kinds-fit h.kinds k, refl))

pub image-fits : (x : Image) → Valid x → image_form.Ok x
unfolding image_form
image-fits x v =
    let e = image-size x in
    let c = blocks-count x.kinds x.blocks in
    let w = ap (λ (l : List ℕ). head_size (length x.kinds) + length l) (blocks-written x.kinds x.blocks) in (
      head-fits (head_of x) v.signals v.high (omega (arith, v.total)) (omega (arith, v.total)) v.kinds,
      ((blocks-fit x.limit x.kinds v.high none x.blocks v.blocks (omega (arith, v.total)), w), refl),
    )
