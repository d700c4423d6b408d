-- The form of an image keeps the two laws.
-- Assumes nothing.
use Prim.Native.Nat.{ℕ, ◌+◌}
use mathlib.Core.Path.{◌≡◌, refl, sym, ap, ap₂, ◌∙◌}
use mathlib.Core.List.{List, [], ◌∷◌}
use mathlib.Core.Option.{Option, some, none}
use borrow.Author.Tests.{eqb-true}
use lib.Dec.{leb, eqb}
use lib.ListN.{length}
use Rattle.signal.specs.declared.kind.SignalEncoding.{SignalEncoding}
use Rattle.signal.specs.declared.kind.SignalEncoding.TheVariants.{BitVector, Real, Absent}
use Rattle.stream.specs.Entries.{Entry}
use Rattle.image.specs.Block.{Part, Block}
use Rattle.image.specs.Head.{kind_number, head_size}
use Rattle.image.specs.Image.{Image, image, streamed_parts, blocks_bytes}
use Rattle.form.specs.Form.{pair, repeat, each, byte, uint, exact, sized}
use Rattle.form.proofs.FormLaws.{Laws, only-laws, header-laws, via-laws, pair-laws, repeat-laws, each-laws, byte_laws, uint_laws, exact-laws, repeat-length}
use Rattle.form.proofs.WholeLaws.{sized-laws, none-some, some_is, by-if, by-pick}
use Rattle.codec.specs.Layout.{layout, layout_form, lengths_in}
use Rattle.codec.specs.ImageForm.{stream, top_and_stream, part_form, layout_of, block_form, kind_of, kind_form, Head, Numbers, numbers_of, head_from, head_form, head_of, image_form}
use Rattle.codec.proofs.LayoutLaws.{layout-laws}
use Rattle.codec.proofs.StreamLaws.{stream-laws, stream-written}
use Rattle.codec.proofs.WrittenOut.{blocks-written}

-- ---- the head

kind-undo : (n : ℕ) (k : SignalEncoding) → kind_of n ≡ some k → kind_number k ≡ n
kind-undo n k e =
    by-pick (leb n 65536) (BitVector n) _ e (λ t q. ap kind_number (sym q)) (λ f2 e2.
    by-pick (eqb n 0xfffffffe) Real _ e2 (λ t q. ap kind_number (sym q) ∙ sym (eqb-true n 0xfffffffe t)) (λ f3 e3.
    by-if (eqb n 0xffffffff) (some Absent) e3 (λ t q. ap kind_number (sym (some_is q)) ∙ sym (eqb-true n 0xffffffff t))))

kind-laws : Laws kind_form
kind-laws = via-laws (uint 4) kind_of kind_number (uint_laws 4) (λ n k o e. kind-undo n k e)

head-agree : (r : Numbers) (h : Head) → length h.kinds ≡ r.0 → head_from r h.kinds ≡ h → numbers_of h ≡ r
head-agree r h l e = ap₂ (λ (n : ℕ) (h : Head). (n, (h.limit, (h.number, h.total)))) l (sym e)

pub head-laws : Laws head_form
unfolding head_form
head-laws = header-laws _ numbers_of _
    (pair-laws (uint 4) _ (uint_laws 4) (pair-laws (uint 4) _ (uint_laws 4) (pair-laws (uint 4) (uint 4) (uint_laws 4) (uint_laws 4))))
    (λ r. via-laws (repeat r.0 kind_form) (λ ks. some (head_from r ks)) (λ h. h.kinds) (repeat-laws r.0 kind_form kind-laws)
    (λ ks h o e. ap (λ (h : Head). h.kinds) (sym (some_is e))))
    (λ r h o d. head-agree r h (repeat-length r.0 kind_form h.kinds d.0) (some_is d.1))

-- ---- a block

part-laws : (k : SignalEncoding) (l : Option ℕ) → Laws (part_form k l)
part-laws k none = only-laws none
part-laws k (some m) = via-laws (pair byte (sized m (stream k))) _ top_and_stream
    (pair-laws byte (sized m (stream k)) byte_laws (sized-laws m (stream k) (stream-laws k)))
    (λ x y o e. ap top_and_stream (sym (some_is e)))

-- the lengths with which parts were read are theirs
pub parts-agree : (ks : List SignalEncoding) (ls : List (Option ℕ)) (ps : List (Option (Part (List Entry)))) → (each part_form ks ls).Ok ps
    → lengths_in (streamed_parts ks ps) ≡ ls
unfolding each streamed_parts lengths_in
parts-agree [] [] ps o = refl
parts-agree [] (l ∷ ls) ps o = absurd o
parts-agree (k ∷ ks) [] ps o = absurd o
parts-agree (k ∷ ks) (l ∷ ls) [] o = absurd o
parts-agree (k ∷ ks) (none ∷ ls) (none ∷ ps) o = ap (λ (t : List (Option ℕ)). none ∷ t) (parts-agree ks ls ps o.1)
parts-agree (k ∷ ks) (none ∷ ls) (some p ∷ ps) o = none-some (sym o.0)
parts-agree (k ∷ ks) (some m ∷ ls) (none ∷ ps) o = none-some (sym (some_is o.0.1))
parts-agree (k ∷ ks) (some m ∷ ls) (some p ∷ ps) o =
    ap₂ (λ (n : ℕ) (t : List (Option ℕ)). some n ∷ t) (ap length (sym (stream-written k p.stream)) ∙ o.0.0.1.1) (parts-agree ks ls ps o.1)

pub block-laws : (ks : List SignalEncoding) → Laws (block_form ks)
unfolding block_form
block-laws ks = header-laws (layout_form (length ks)) (layout_of ks) _ (layout-laws (length ks))
    (λ l. via-laws (pair (repeat l.count (uint 8)) (each part_form ks l.lens)) _ (λ b. (b.times, b.parts))
    (pair-laws (repeat l.count (uint 8)) (each part_form ks l.lens) (repeat-laws l.count (uint 8) (uint_laws 8)) (each-laws part_form part-laws ks l.lens))
    (λ x b o e. ap (λ (b : Block (List Entry)). (b.times, b.parts)) (sym (some_is e))))
    (λ l b o d. ap₂ layout (repeat-length l.count (uint 8) b.times d.0.0) (parts-agree ks l.lens b.parts d.0.1))

-- ---- the image

-- the head with which blocks were read is theirs
pub head-same : (h : Head) (x : Image) → length x.blocks ≡ h.number → image h.limit h.kinds x.blocks ≡ x
    → head_size (length h.kinds) + length ((repeat h.number (block_form h.kinds)).put x.blocks) ≡ h.total → head_of x ≡ h
head-same h x n e t =
    let ks : List SignalEncoding = h.kinds in
    let bs : List (Block (List Entry)) = x.blocks in
    let w : (repeat h.number (block_form ks)).put bs ≡ blocks_bytes ks bs =
    ap (λ (n : ℕ). (repeat n (block_form ks)).put bs) (sym n) ∙ blocks-written ks bs in
    ap head_of (sym e)
    ∙ ap₂ (λ (n t : ℕ). head_from (0, (h.limit, (n, t))) ks) n (ap (λ (l : List ℕ). head_size (length ks) + length l) (sym w) ∙ t)

pub image-laws : Laws image_form
unfolding image_form
image-laws = header-laws head_form head_of _ head-laws
    (λ h. via-laws (exact (head_size (length h.kinds)) h.total (repeat h.number (block_form h.kinds))) (λ bs. some (image h.limit h.kinds bs)) (λ x. x.blocks)
    (exact-laws (head_size (length h.kinds)) h.total (repeat h.number (block_form h.kinds)) (repeat-laws h.number (block_form h.kinds) (block-laws h.kinds)))
    (λ bs x o e. ap (λ (x : Image). x.blocks) (sym (some_is e))))
    (λ h x o d. head-same h x (repeat-length h.number (block_form h.kinds) x.blocks d.0.0) (some_is d.1) d.0.1)
