-- Reading from front to end, each test where its bytes stand, finds what `parse` finds.
-- Assumes nothing.
use Prim.Native.Nat.{ℕ, zero, suc, ◌+◌, ◌≤◌}
use mathlib.Core.Path.{◌≡◌, refl, sym, ap, ap₂, ◌∙◌, subst}
use mathlib.Core.Bool.{true}
use mathlib.Core.List.{List, [], ◌∷◌, ◌++◌}
use mathlib.Core.Option.{Option, some, none}
use native.Mathlib.Omega.{arith}
use lib.Dec.{leb, eqb}
use lib.ListN.{length}
use Rattle.lists.specs.Bytes.{Bytes}
use Rattle.lists.specs.Last.{last_or}
use Rattle.signal.specs.declared.kind.SignalEncoding.{SignalEncoding}
use Rattle.signal.specs.declared.kind.SignalEncoding.TheVariants.{BitVector, Real, Absent}
use Rattle.signal.specs.Kind.{known_kind}
use Rattle.stream.specs.Entries.{Entry}
use Rattle.image.specs.Block.{Block}
use Rattle.image.specs.Head.{head_size, image_limit}
use Rattle.image.specs.Image.{Image, image}
use Rattle.codec.specs.Valid.{KnownKinds, BlocksFit, Valid}
use Rattle.form.specs.Form.{guard, repeat, exact, closed}
use Rattle.form.proofs.FormLaws.{Laws, only-laws, consThen-laws, guard-laws, header-laws, via-laws, exact-laws}
use Rattle.form.proofs.WholeLaws.{closed-laws, some_is, by-if, by-pick}
use Rattle.form.proofs.Unique.{read_same}
use Rattle.codec.specs.ImageForm.{block_form, kind_form, Head, head_form, head_of, image_form}
use Rattle.codec.specs.Parse.{valid_image, parse}
use Rattle.codec.specs.Walk.{walk_block, walk_blocks, HeadFits, head_fits?, walk_form, walk}
use Rattle.codec.proofs.ImageLaws.{head-laws, head-same}
use Rattle.codec.proofs.ImageFits.{image-size, image-fits}
use Rattle.codec.proofs.Trip.{laws}
use Rattle.codec.proofs.WalkBlock.{walk-block-laws, walk-tested, tested-walk}

module _ (limit : ℕ) (ks : List SignalEncoding) where
  walk-blocks-laws : (n : ℕ) (end : Option ℕ) → Laws (walk_blocks limit ks n end)
  unfolding walk_blocks
  walk-blocks-laws zero end = only-laws []
  walk-blocks-laws (suc n) end =
      consThen-laws (walk_block limit ks end) (λ b. walk_blocks limit ks n (some (last_or 0 b.times)))
      (walk-block-laws limit ks end) (λ b. walk-blocks-laws n (some (last_or 0 b.times)))

  walk-length : (n : ℕ) (end : Option ℕ) (bs : List (Block (List Entry))) → (walk_blocks limit ks n end).Ok bs → length bs ≡ n
  unfolding walk_blocks
  walk-length zero end bs o = ap length o
  walk-length (suc n) end [] o = absurd o
  walk-length (suc n) end (b ∷ bs) o = ap suc (walk-length n _ bs o.1)

  walk_put : (n : ℕ) (end : Option ℕ) (bs : List (Block (List Entry))) → (walk_blocks limit ks n end).Ok bs
      → (walk_blocks limit ks n end).put bs ≡ (repeat n (block_form ks)).put bs
  unfolding walk_blocks repeat
  walk_put zero end bs o = refl
  walk_put (suc n) end [] o = refl
  walk_put (suc n) end (b ∷ bs) o = ap₂ (λ (s t : List ℕ). s ++ t) (walk-tested limit ks end b o.0).same (walk_put n _ bs o.1)

  walk-fits : (n : ℕ) (end : Option ℕ) (bs : List (Block (List Entry))) → (walk_blocks limit ks n end).Ok bs → BlocksFit limit ks end bs
  unfolding walk_blocks
  walk-fits zero end [] o = tt
  walk-fits zero end (b ∷ bs) o = let e = ap length o in absurd (omega arith)
  walk-fits (suc n) end [] o = absurd o
  walk-fits (suc n) end (b ∷ bs) o = let t = (walk-tested limit ks end b o.0).ok.1 in (t.0, (t.1, walk-fits n _ bs o.1))

  fits-walk : (end : Option ℕ) (bs : List (Block (List Entry))) → (repeat (length bs) (block_form ks)).Ok bs → BlocksFit limit ks end bs
      → (walk_blocks limit ks (length bs) end).Ok bs
  unfolding walk_blocks repeat
  fits-walk end [] o f = refl
  fits-walk end (b ∷ bs) o f = ((tested-walk limit ks end b (o.0, (f.0, f.1.0))).ok, fits-walk (some (last_or 0 b.times)) bs o.1 f.1.1)

pub walk-laws : Laws walk_form
unfolding walk_form
walk-laws =
    header-laws (guard head_form HeadFits head_fits?) head_of _ (guard-laws head_form HeadFits head_fits? head-laws)
    (λ h. via-laws (exact (head_size (length h.kinds)) h.total (walk_blocks h.limit h.kinds h.number none))
    (λ bs. some (image h.limit h.kinds bs)) (λ x. x.blocks)
    (exact-laws (head_size (length h.kinds)) h.total (walk_blocks h.limit h.kinds h.number none) (walk-blocks-laws h.limit h.kinds h.number none))
    (λ bs x o e. ap (λ (x : Image). x.blocks) (sym (some_is e))))
    (λ h x o d. head-same h x (walk-length h.limit h.kinds h.number none x.blocks d.0.0) (some_is d.1)
    (ap (λ (t : List ℕ). head_size (length h.kinds) + length t) (sym (walk_put h.limit h.kinds h.number none x.blocks d.0.0)) ∙ d.0.1))

-- only a known kind has a number
kind-known : (k : SignalEncoding) → kind_form.Ok k → known_kind k ≡ true
kind-known (BitVector w) o =
    by-pick (leb w 65536) (BitVector w) _ o.1 (λ t q. t) (λ f2 e2.
    by-pick (eqb w 0xfffffffe) Real _ e2 (λ t q. subst (λ (k : SignalEncoding). known_kind k ≡ true) q refl) (λ f3 e3.
    by-if (eqb w 0xffffffff) (some Absent) e3 (λ t q. subst (λ (k : SignalEncoding). known_kind k ≡ true) (some_is q) refl)))
kind-known Real o = refl
kind-known Absent o = refl

kinds-known : (l : List SignalEncoding) → (repeat (length l) kind_form).Ok l → KnownKinds l
unfolding repeat
kinds-known [] o = tt
kinds-known (k ∷ l) o = (kind-known k o.0, kinds-known l o.1)

head-known : (h : Head) → head_form.Ok h → KnownKinds h.kinds
unfolding head_form
head-known h o = kinds-known h.kinds o.1.0

walk-valid : (x : Image) → walk_form.Ok x → Valid x
unfolding walk_form
walk-valid x o =
    let f = o.0.1 in
    record {
      low = f.low;
      high = f.high;
      signals = f.signals;
      kinds = head-known (head_of x) o.0.0;
      total = rw (image-size x) f.total;
      blocks = walk-fits x.limit x.kinds (length x.blocks) none x.blocks o.1.0.0;
    }

walk_same : (x : Image) → walk_form.Ok x → walk_form.put x ≡ image_form.put x
unfolding walk_form image_form
walk_same x o = ap (λ (t : List ℕ). head_form.put (head_of x) ++ t) (walk_put x.limit x.kinds (length x.blocks) none x.blocks o.1.0.0)

valid-walk : (x : Image) → Valid x → image_form.Ok x → walk_form.Ok x
unfolding walk_form image_form
valid-walk x v o =
    let t : (head_of x).total ≤ image_limit = omega (arith, image-size x, v.total) in
    let w = fits-walk x.limit x.kinds none x.blocks o.1.0.0 v.blocks in
    let e = ap (λ (t : List ℕ). head_size (length x.kinds) + length t) (walk_put x.limit x.kinds (length x.blocks) none x.blocks w) in
    ((o.0, record { low = v.low; high = v.high; signals = v.signals; total = t }), ((w, e ∙ o.1.0.1), refl))

pub walk-parse : (b : List ℕ) → Bytes b → walk b ≡ parse b
unfolding walk parse
walk-parse b y =
    read_same (closed walk_form) valid_image (closed-laws walk_form walk-laws) laws
    (λ x o. let v = walk-valid x o in record { fit = (image-fits x v, v); same = walk_same x o })
    (λ x o. let w = valid-walk x o.1 o.0 in record { fit = w; same = sym (walk_same x w) }) b y
