-- Reading inside a block, test by test, finds what the form and `BlockFits` find.
-- Assumes nothing.
use Prim.Native.Nat.{ℕ, zero, suc, ◌≤◌, ◌<◌, ◌^◌}
use mathlib.Core.Path.{◌≡◌, refl, sym, ap, ap₂, ◌∙◌, subst}
use mathlib.Core.List.{List, [], ◌∷◌, ◌++◌}
use mathlib.Core.Option.{Option, some, none}
use native.Mathlib.Omega.{arith}
use lib.ListN.{length}
use Rattle.signal.specs.declared.kind.SignalEncoding.{SignalEncoding}
use Rattle.stream.specs.Entries.{Entry}
use Rattle.image.specs.Block.{Part, Block, part, block}
use Rattle.signal.specs.Kind.{top_limit}
use Rattle.form.specs.Decide.{le?, lt?, both}
use Rattle.form.specs.Form.{Form, guard, pair, repeat, each, byte, uint, sized, chain, put_chain, OkChain}
use Rattle.form.proofs.FormLaws.{Laws, only-laws, guard-laws, header-laws, via-laws, pair-laws, repeat-laws, each-laws, byte_laws, uint_laws, repeat-length}
use Rattle.form.proofs.WholeLaws.{WholeLaws, chain_laws, sized-laws, such-laws, none-some, some_is}
use Rattle.form.proofs.Unique.{Within}
use Rattle.codec.specs.Layout.{layout, layout_form}
use Rattle.codec.specs.ImageForm.{entry_form, stream, top_and_stream, part_form, layout_of, block_form}
use Rattle.codec.specs.Valid.{Rising, EachBelow, EntryFits, EntriesFit, OptionFits, PartsFit, Starts, BlockFits, entry_fits?, rising?, starts?, block_fits?}
use Rattle.codec.specs.Walk.{walk_entry, walk_stream, walked_part, walk_layout, walk_times, walk_block}
use Rattle.codec.proofs.LayoutLaws.{layout-laws}
use Rattle.codec.proofs.StreamLaws.{entry-laws, change-long}
use Rattle.codec.proofs.ImageLaws.{parts-agree}

-- ---- a stream

pub walk-entry-laws : (k : SignalEncoding) (n top i : ℕ) → Laws (walk_entry k n top i)
walk-entry-laws k n top i = guard-laws (entry_form k i) (EntryFits k n i top) (entry_fits? k n i top) (entry-laws k i)

pub walk-entry-long : (k : SignalEncoding) (n top i : ℕ) (e : Entry) → (walk_entry k n top i).Ok e → 0 < length ((walk_entry k n top i).put e)
walk-entry-long k n top i e o = change-long k _ e.content o.0.0.fits

pub walk-stream-laws : (k : SignalEncoding) (n top : ℕ) → WholeLaws (walk_stream k n top)
walk-stream-laws k n top = such-laws (chain (walk_entry k n top) (λ e. e.index) 0) (λ l. 0 < length l) (λ l. lt? 0 (length l))
    (chain_laws (walk_entry k n top) (λ e. e.index) (walk-entry-laws k n top) (walk-entry-long k n top) 0)

-- the guarded chain is the stream, and what fits
module _ (k : SignalEncoding) (n top : ℕ) where
  walk-ok : (i : ℕ) (l : List Entry) → OkChain (walk_entry k n top) (λ e. e.index) i l → OkChain (entry_form k) (λ e. e.index) i l × EntriesFit k n i top l
  unfolding OkChain
  walk-ok i [] o = (tt, tt)
  walk-ok i (e ∷ l) o = let r = walk-ok e.index l o.1 in ((o.0.0, r.0), (o.0.1, r.1))

  ok-walk : (i : ℕ) (l : List Entry) → OkChain (entry_form k) (λ e. e.index) i l → EntriesFit k n i top l → OkChain (walk_entry k n top) (λ e. e.index) i l
  unfolding OkChain
  ok-walk i [] o f = tt
  ok-walk i (e ∷ l) o f = ((o.0, f.0), ok-walk e.index l o.1 f.1)

  walk_put : (i : ℕ) (l : List Entry) → put_chain (walk_entry k n top) (λ e. e.index) i l ≡ put_chain (entry_form k) (λ e. e.index) i l
  unfolding put_chain
  walk_put i [] = refl
  walk_put i (e ∷ l) = ap (λ (t : List ℕ). (entry_form k i).put e ++ t) (walk_put e.index l)

  stream-ok : (l : List Entry) → OkChain (walk_entry k n top) (λ e. e.index) 0 l → (stream k).Fit l × EntriesFit k n 0 top l
  unfolding stream
  stream-ok l o = walk-ok 0 l o

  ok-stream : (l : List Entry) → (stream k).Fit l → EntriesFit k n 0 top l → OkChain (walk_entry k n top) (λ e. e.index) 0 l
  unfolding stream
  ok-stream l o f = ok-walk 0 l o f

  stream-put : (l : List Entry) → put_chain (walk_entry k n top) (λ e. e.index) 0 l ≡ (stream k).write l
  unfolding stream
  stream-put l = walk_put 0 l

-- ---- a part

module _ (n : ℕ) where
  pub walk-part-laws : (k : SignalEncoding) (l : Option ℕ) → Laws (walked_part n k l)
  walk-part-laws k none = only-laws none
  walk-part-laws k (some m) =
      header-laws (guard byte (λ t. t ≤ top_limit k) (λ t. le? t (top_limit k))) (λ p. (top_and_stream p).0) _
      (guard-laws byte (λ t. t ≤ top_limit k) (λ t. le? t (top_limit k)) byte_laws)
      (λ t. via-laws (sized m (walk_stream k n t)) (λ l. some (some (part t l))) (λ p. (top_and_stream p).1)
      (sized-laws m (walk_stream k n t) (walk-stream-laws k n t))
      (λ l p o e. ap (λ (q : Option (Part (List Entry))). (top_and_stream q).1) (sym (some_is e))))
      (λ t p o d. ap (λ (q : Option (Part (List Entry))). (top_and_stream q).0) (sym (some_is d.1)))

  record PartSame (k : SignalEncoding) (l : Option ℕ) (p : Option (Part (List Entry))) : Type 0 where
    form : (part_form k l).Ok p
    fits : OptionFits k n p
    walk : (walked_part n k l).Ok p
    put : (walked_part n k l).put p ≡ (part_form k l).put p

  walk-part : (k : SignalEncoding) (l : Option ℕ) (p : Option (Part (List Entry))) → (walked_part n k l).Ok p → PartSame k l p
  walk-part k none p o = record { form = o; fits = subst (OptionFits k n) (sym o) tt; walk = o; put = refl }
  walk-part k (some m) none o = none-some (sym (some_is o.1.1))
  walk-part k (some m) (some p) o =
      let f = o.1.0.0 in
      let w = stream-ok k n p.top p.stream f.0 in
      let e = stream-put k n p.top p.stream in
      record {
        form = ((o.0.0, (w.0, ap length (sym e) ∙ o.1.0.1)), refl);
        fits = record { any = f.1; most = o.0.1; entries = w.1 };
        walk = o;
        put = ap (λ (t : List ℕ). p.top ∷ t) e;
      }

  part-walk : (k : SignalEncoding) (l : Option ℕ) (p : Option (Part (List Entry))) → (part_form k l).Ok p → OptionFits k n p → PartSame k l p
  part-walk k none p o f = record { form = o; fits = f; walk = o; put = refl }
  part-walk k (some m) none o f = none-some (sym (some_is o.1))
  part-walk k (some m) (some p) o f =
      let w = ok-stream k n p.top p.stream o.0.1.0 f.entries in
      let e = stream-put k n p.top p.stream in
      record {
        form = o;
        fits = f;
        walk = ((o.0.0, f.most), (((w, f.any), ap length e ∙ o.0.1.1), refl));
        put = ap (λ (t : List ℕ). p.top ∷ t) e;
      }

  record PartsSame (ks : List SignalEncoding) (ls : List (Option ℕ)) (ps : List (Option (Part (List Entry)))) : Type 0 where
    form : (each part_form ks ls).Ok ps
    fits : PartsFit n ks ps
    walk : (each (walked_part n) ks ls).Ok ps
    put : (each (walked_part n) ks ls).put ps ≡ (each part_form ks ls).put ps

  walk-parts : (ks : List SignalEncoding) (ls : List (Option ℕ)) (ps : List (Option (Part (List Entry)))) → (each (walked_part n) ks ls).Ok ps → PartsSame ks ls ps
  unfolding each
  walk-parts [] [] ps o = record { form = o; fits = subst (PartsFit n []) (sym o) tt; walk = o; put = refl }
  walk-parts [] (l ∷ ls) ps o = absurd o
  walk-parts (k ∷ ks) [] ps o = absurd o
  walk-parts (k ∷ ks) (l ∷ ls) [] o = absurd o
  walk-parts (k ∷ ks) (l ∷ ls) (p ∷ ps) o =
      let a = walk-part k l p o.0 in
      let b = walk-parts ks ls ps o.1 in
      record { form = (a.form, b.form); fits = (a.fits, b.fits); walk = o; put = ap₂ (λ (s t : List ℕ). s ++ t) a.put b.put }

  parts-walk : (ks : List SignalEncoding) (ls : List (Option ℕ)) (ps : List (Option (Part (List Entry)))) → (each part_form ks ls).Ok ps → PartsFit n ks ps → PartsSame ks ls ps
  unfolding each
  parts-walk [] [] ps o f = record { form = o; fits = f; walk = o; put = refl }
  parts-walk [] (l ∷ ls) ps o f = absurd o
  parts-walk (k ∷ ks) [] ps o f = absurd o
  parts-walk (k ∷ ks) (l ∷ ls) [] o f = absurd o
  parts-walk (k ∷ ks) (l ∷ ls) (p ∷ ps) o f =
      let a = part-walk k l p o.0 f.0 in
      let b = parts-walk ks ls ps o.1 f.1 in
      record { form = o; fits = f; walk = (a.walk, b.walk); put = ap₂ (λ (s t : List ℕ). s ++ t) a.put b.put }

-- ---- a block

uints-small : (w n : ℕ) (l : List ℕ) → (repeat n (uint w)).Ok l → EachBelow (256 ^ w) l
unfolding repeat
uints-small w zero [] o = tt
uints-small w zero (x ∷ l) o = let e = ap length o in absurd (omega arith)
uints-small w (suc n) [] o = absurd o
uints-small w (suc n) (x ∷ l) o = (o.0, uints-small w n l o.1)

module _ (limit : ℕ) (ks : List SignalEncoding) (end : Option ℕ) where
  abbrev pub Tested : Form (Block (List Entry))
  Tested = guard (block_form ks) (λ b. Starts end b.times × BlockFits limit ks b) (λ b. both (starts? end b.times) (block_fits? limit ks b))

  pub walk-block-laws : Laws (walk_block limit ks end)
  unfolding walk_block
  walk-block-laws =
      header-laws (walk_layout limit (length ks)) (layout_of ks) _
      (guard-laws (layout_form (length ks)) (λ l. (1 ≤ l.count) × (l.count ≤ limit)) (λ l. both (le? 1 l.count) (le? l.count limit)) (layout-laws (length ks)))
      (λ l. via-laws (pair (walk_times end l.count) (each (walked_part l.count) ks l.lens))
      (λ x. some (block x.0 x.1)) (λ b. (b.times, b.parts))
      (pair-laws (walk_times end l.count) (each (walked_part l.count) ks l.lens)
      (guard-laws (repeat l.count (uint 8)) (λ ts. Starts end ts × Rising ts) (λ ts. both (starts? end ts) (rising? ts)) (repeat-laws l.count (uint 8) (uint_laws 8)))
      (each-laws (walked_part l.count) (walk-part-laws l.count) ks l.lens))
      (λ x b o e. ap (λ (b : Block (List Entry)). (b.times, b.parts)) (sym (some_is e))))
      (λ l b o d. ap₂ layout (repeat-length l.count (uint 8) b.times d.0.0.0)
      (parts-agree ks l.lens b.parts (walk-parts l.count ks l.lens b.parts d.0.1).form))

  block-put : (b : Block (List Entry)) → PartsSame (length b.times) ks (layout_of ks b).lens b.parts
      → (walk_block limit ks end).put b ≡ (block_form ks).put b
  unfolding walk_block block_form
  block-put b s =
      ap (λ (t : List ℕ). (layout_form (length ks)).put (layout_of ks b) ++ ((repeat (length b.times) (uint 8)).put b.times ++ t)) s.put

  pub walk-tested : (b : Block (List Entry)) → (walk_block limit ks end).Ok b → Within (walk_block limit ks end) Tested b
  walk-tested b o =
      let s = walk-parts (length b.times) ks (layout_of ks b).lens b.parts (parts-of o) in
      record { ok = make o s; same = block-put b s }
    where
      parts-of : (walk_block limit ks end).Ok b → (each (walked_part (length b.times)) ks (layout_of ks b).lens).Ok b.parts
      parts-of o = unfold walk_block in o.1.0.1

      make : (walk_block limit ks end).Ok b → PartsSame (length b.times) ks (layout_of ks b).lens b.parts → Tested.Ok b
      make o s = unfold walk_block block_form in (
        (o.0.0, ((o.1.0.0.0, s.form), refl)),
        (
          o.1.0.0.1.0,
          record { any = o.0.1.0; few = o.0.1.1; rising = o.1.0.0.1.1; small = uints-small 8 (length b.times) b.times o.1.0.0.0; parts = s.fits },
        ),
      )

  pub tested-walk : (b : Block (List Entry)) → Tested.Ok b → Within Tested (walk_block limit ks end) b
  tested-walk b o =
      let s = parts-walk (length b.times) ks (layout_of ks b).lens b.parts (parts-of o.0) o.1.1.parts in
      record { ok = make o s; same = sym (block-put b s) }
    where
      parts-of : (block_form ks).Ok b → (each part_form ks (layout_of ks b).lens).Ok b.parts
      parts-of o = unfold block_form in o.1.0.1

      make : Tested.Ok b → PartsSame (length b.times) ks (layout_of ks b).lens b.parts → (walk_block limit ks end).Ok b
      make o s = unfold walk_block block_form in
          ((o.0.0, (o.1.1.any, o.1.1.few)), (((o.0.1.0.0, (o.1.0, o.1.1.rising)), s.walk), refl))
