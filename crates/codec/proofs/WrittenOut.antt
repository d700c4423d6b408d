-- The form of an image writes the bytes that document 01 writes out.
-- Assumes nothing.
use Prim.Native.Nat.{ℕ, zero, suc, ◌≤◌}
use mathlib.Core.Path.{◌≡◌, refl, sym, ap, ap₂, ◌∙◌}
use mathlib.Core.List.{List, [], ◌∷◌, ◌++◌, map, append_assoc}
use mathlib.Core.Option.{Option, some, none}
use native.Mathlib.Omega.{arith}
use lib.ListN.{length}
use Rattle.numbers.specs.LittleEndian.{le}
use Rattle.signal.specs.declared.kind.SignalEncoding.{SignalEncoding}
use Rattle.stream.specs.Entries.{Entry}
use Rattle.image.specs.Block.{Part, Block, les, data_of, offsets_from, block_bytes}
use Rattle.image.specs.Head.{kind_number, head_bytes}
use Rattle.image.specs.Image.{Image, streamed_parts, streamed, blocks_bytes, image_bytes}
use Rattle.form.specs.Form.{repeat, each, uint}
use Rattle.codec.specs.Layout.{lengths_in, offsets, layout_form}
use Rattle.codec.specs.ImageForm.{part_form, block_form, kind_form, head_form, image_form}
use Rattle.codec.proofs.LayoutLaws.{offsets-parts, size-parts, count-parts, count-offsets}
use Rattle.codec.proofs.StreamLaws.{stream-written}

uints-written : (w n : ℕ) (l : List ℕ) → length l ≤ n → (repeat n (uint w)).put l ≡ les w l
unfolding repeat les
uints-written w zero [] h = refl
uints-written w zero (x ∷ l) h = absurd (omega arith)
uints-written w (suc n) [] h = refl
uints-written w (suc n) (x ∷ l) h = ap (λ (t : List ℕ). le w x ++ t) (uints-written w n l (omega arith))

kinds-written : (l : List SignalEncoding) → (repeat (length l) kind_form).put l ≡ les 4 (map kind_number l)
unfolding repeat les
kinds-written [] = refl
kinds-written (k ∷ l) = ap (λ (t : List ℕ). le 4 (kind_number k) ++ t) (kinds-written l)

pub count-streamed : (ks : List SignalEncoding) (ps : List (Option (Part (List Entry)))) → length (streamed_parts ks ps) ≡ length ks
unfolding streamed_parts
count-streamed [] ps = refl
count-streamed (k ∷ ks) [] = ap suc (count-streamed ks [])
count-streamed (k ∷ ks) (p ∷ ps) = ap suc (count-streamed ks ps)

no-parts : (ks : List SignalEncoding) → data_of (streamed_parts ks []) ≡ []
unfolding data_of streamed_parts
no-parts [] = refl
no-parts (k ∷ ks) = no-parts ks

pub parts-written : (ks : List SignalEncoding) (ps : List (Option (Part (List Entry))))
    → (each part_form ks (lengths_in (streamed_parts ks ps))).put ps ≡ data_of (streamed_parts ks ps)
unfolding each data_of streamed_parts lengths_in
parts-written [] ps = refl
parts-written (k ∷ ks) [] = sym (no-parts ks)
parts-written (k ∷ ks) (none ∷ ps) = parts-written ks ps
parts-written (k ∷ ks) (some p ∷ ps) =
    ap₂ (λ (s t : List ℕ). (p.top ∷ s) ++ t) (stream-written k p.stream) (parts-written ks ps)

pub block_written : (ks : List SignalEncoding) (b : Block (List Entry)) → (block_form ks).put b ≡ block_bytes (streamed ks b)
unfolding block_form layout_form block_bytes
block_written ks b =
    let ps : List (Option (Part (List ℕ))) = streamed_parts ks b.parts in
    let l : List (Option ℕ) = lengths_in ps in
    let n : length ps ≡ length ks = count-streamed ks b.parts in
    let o : (repeat (length ks) (uint 4)).put (offsets 0 l) ≡ les 4 (offsets_from 0 ps) =
    uints-written 4 (length ks) (offsets 0 l) (omega (arith, count-offsets 0 l, count-parts ps)) ∙ ap (les 4) (sym (offsets-parts 0 ps)) in
    let t : (repeat (length b.times) (uint 8)).put b.times ≡ les 8 b.times = uints-written 8 (length b.times) b.times (omega arith) in
    rw (o, t, parts-written ks b.parts, n, size-parts ps) (simp append_assoc)

pub blocks-written : (ks : List SignalEncoding) (bs : List (Block (List Entry))) → (repeat (length bs) (block_form ks)).put bs ≡ blocks_bytes ks bs
unfolding repeat blocks_bytes
blocks-written ks [] = refl
blocks-written ks (b ∷ bs) = ap₂ (λ (s t : List ℕ). s ++ t) (block_written ks b) (blocks-written ks bs)

pub image-written : (x : Image) → image_form.put x ≡ image_bytes x
unfolding image_form head_form image_bytes head_bytes
image-written x = rw (blocks-written x.kinds x.blocks, kinds-written x.kinds) (simp append_assoc)
