-- The kept entries of a signal of a valid image: their contents fit its kind, their classes its class, their indices the combined table.
-- And they are no more than the signal's streams have room for.
-- Assumes nothing.
use Prim.Native.Nat.{ℕ, suc, ◌+◌, ◌-◌, ◌*◌, ◌≤◌, ◌<◌}
use mathlib.Core.Path.{◌≡◌, refl, ap}
use mathlib.Core.Bool.{Bool, true, false}
use mathlib.Core.List.{List, [], ◌∷◌, ◌++◌}
use mathlib.Core.Option.{Option, some, none}
use native.Mathlib.Nat.{mul-le-mul}
use native.Mathlib.Omega.{arith}
use lib.ListN.{length, get_or, length-append}
use Rattle.lists.specs.Choice.{pick}
use Rattle.lists.specs.Last.{last_or}
use Rattle.value.specs.Class.{class_of_all}
use Rattle.signal.specs.declared.kind.SignalEncoding.{SignalEncoding}
use Rattle.signal.specs.declared.kind.SignalEncoding.TheVariants.{Absent}
use Rattle.signal.specs.Content.{ContentFits, symbols_of}
use Rattle.stream.specs.Entries.{Entry, or_nine}
use Rattle.image.specs.Block.{Part, Block}
use Rattle.image.specs.Image.{Image}
use Rattle.codec.specs.Valid.{EntriesFit, OptionFits, BlocksFit, Valid}
use Rattle.codec.proofs.ImageFits.{top_small}
use Rattle.codec.proofs.Growth.{parts-each}
use Rattle.loaded.specs.Opener.{kind_at, part_at, stream_in}
use Rattle.loaded.specs.Loading.{overlap, table_from, moved, repeats_last, pushed, Load, load, entries_in, top_in, load_block, load_from, loads, signal_class}
use Rattle.loaded.proofs.TableLaws.{overlap-both, joined_length}
use Rattle.entry.proofs.EntriesLaws.{EachFits}
use Rattle.walk_part.proofs.PartLaws.{entries_fit}
use Rattle.loader_measure.specs.Least.{least_length, streams_length}
use Rattle.loader.proofs.BlocksLaws.{class-grows}
use Rattle.loader_measure.proofs.LeastLaws.{part-least}

-- ---- the combined table

times-grow : (g : ℕ) (l : Load) (bs : List (Block (List Entry))) → length l.times ≤ length (load_from g l bs).times
unfolding load_from
times-grow g l [] = omega arith
times-grow g l (y ∷ bs) =
    let o = overlap-both l.times y.times in
    omega (arith, joined_length l.times y.times, o.0, o.1, times-grow g (load_block g l y) bs)

table-from : (g : ℕ) (l : Load) (bs : List (Block (List Entry))) → (load_from g l bs).times ≡ table_from l.times bs
unfolding load_from table_from
table-from g l [] = refl
table-from g l (y ∷ bs) = table-from g (load_block g l y) bs

loaded-table : (g : ℕ) (bs : List (Block (List Entry))) → (loads g bs).times ≡ table_from [] bs
loaded-table g bs = table-from g (load [] [] 0) bs

-- ---- the kept entries

-- an entry of a signal of kind k and class c, in a table of n times
pub record KeptFits (k : SignalEncoding) (c n : ℕ) (e : Entry) : Type 0 where
  pub content : ContentFits k e.content
  pub class : class_of_all (symbols_of e.content) ≤ c
  pub inside : e.index < n

abbrev pub EachKept : SignalEncoding → (c n : ℕ) → List Entry → Type 0
EachKept k c n [] = Unit {0}
EachKept k c n (e ∷ es) = KeptFits k c n e × EachKept k c n es

module _ (k : SignalEncoding) (c n : ℕ) where
  one_kept : (out : List Entry) (e : Entry) → EachKept k c n out → KeptFits k c n e → EachKept k c n (out ++ e ∷ [])
  one_kept [] e f h = (h, tt)
  one_kept (o ∷ out) e f h = (f.0, one_kept out e f.1 h)

  picked-kept : (t : Bool) (out : List Entry) (e : Entry) → EachKept k c n out → KeptFits k c n e → EachKept k c n (pick t out (out ++ e ∷ []))
  picked-kept true out e f h = f
  picked-kept false out e f h = one_kept out e f h

  pushed-kept : (out es : List Entry) → EachKept k c n out → EachKept k c n es → EachKept k c n (pushed out es)
  unfolding pushed
  pushed-kept out [] f h = f
  pushed-kept out (e ∷ es) f h =
      pushed-kept (pick (repeats_last out e.content) out (out ++ e ∷ [])) es (picked-kept (repeats_last out e.content) out e f h.0) h.1

  moved-kept : (m i top base : ℕ) (es : List Entry) → EntriesFit k m i top es → top ≤ c → base + m ≤ n → EachKept k c n (moved base es)
  unfolding moved
  moved-kept m i top base [] f h z = tt
  moved-kept m i top base (e ∷ es) f h z =
      (record { content = f.0.content; class = omega (arith, f.0.class); inside = omega (arith, f.0.inside) }, moved-kept m e.index top base es f.1 h z)

module _ (limit : ℕ) (ks : List SignalEncoding) (g : ℕ) where
  abbrev kind : SignalEncoding
  kind = get_or ks g Absent

  loads-kept : (c n : ℕ) (end : Option ℕ) (l : Load) (bs : List (Block (List Entry))) → BlocksFit limit ks end bs
      → (load_from g l bs).class ≤ c → length (load_from g l bs).times ≤ n → EachKept kind c n l.entries → EachKept kind c n (load_from g l bs).entries
  unfolding load_from
  loads-kept c n end l [] f h z e = e
  loads-kept c n end l (y ∷ bs) f h z e =
      let p = parts-each (length y.times) ks y.parts f.1.0.parts g in
      let new = moved-kept kind c n (length y.times) 0 (top_in (part_at y g)) (length l.times - overlap l.times y.times) (entries_in (part_at y g))
      (entries_fit kind (length y.times) (part_at y g) p)
      (omega (arith, class-grows g (load_block g l y) bs))
      (omega (arith, times-grow g (load_block g l y) bs, joined_length l.times y.times)) in
      loads-kept c n (some (last_or 0 y.times)) (load_block g l y) bs f.1.1 h z (pushed-kept kind c n l.entries _ e new)

-- ---- the class

top-two : (k : SignalEncoding) (n : ℕ) (p : Option (Part (List Entry))) → OptionFits k n p → top_in p ≤ 2
top-two k n none f = omega arith
top-two k n (some p) f = omega (arith, f.most, top_small k)

class-two : (limit : ℕ) (ks : List SignalEncoding) (end : Option ℕ) (g : ℕ) (l : Load) (bs : List (Block (List Entry)))
    → BlocksFit limit ks end bs → l.class ≤ 2 → (load_from g l bs).class ≤ 2
unfolding load_from
class-two limit ks end g l [] f h = h
class-two limit ks end g l (y ∷ bs) f h =
    let p = parts-each (length y.times) ks y.parts f.1.0.parts g in
    let t = top-two (get_or ks g Absent) _ (part_at y g) p in
    class-two limit ks (some (last_or 0 y.times)) g (load_block g l y) bs f.1.1 (omega arith)

nine-most : (es : List Entry) (c : ℕ) → c ≤ 2 → or_nine es c ≤ 2
nine-most [] c h = omega arith
nine-most (e ∷ es) c h = h

kept-nine : (k : SignalEncoding) (c n : ℕ) (es : List Entry) → EachKept k c n es → EachKept k (or_nine es c) n es
kept-nine k c n [] f = tt
kept-nine k c n (e ∷ es) f = f

module _ (x : Image) (v : Valid x) (g : ℕ) where
  abbrev loaded : Load
  loaded = loads g x.blocks

  pub top-most : loaded.class ≤ 2
  top-most = class-two x.limit x.kinds none g (load [] [] 0) x.blocks v.blocks (omega arith)

  pub class-most : signal_class loaded ≤ 2
  class-most = nine-most loaded.entries loaded.class top-most

  pub each-kept : EachKept (kind_at x g) (signal_class loaded) (length (table_from [] x.blocks)) loaded.entries
  each-kept =
      let t = loaded-table g x.blocks in
      kept-nine (kind_at x g) loaded.class _ loaded.entries
      (loads-kept x.limit x.kinds g loaded.class (length (table_from [] x.blocks)) none (load [] [] 0) x.blocks v.blocks (omega arith) (omega (arith, ap length t)) tt)

  pub kept-fits : EachFits (kind_at x g) (signal_class loaded) loaded.entries
  kept-fits = by (kind_at x g) (signal_class loaded) loaded.entries each-kept
    where
      by : (k : SignalEncoding) (c : ℕ) (es : List Entry) → EachKept k c (length (table_from [] x.blocks)) es → EachFits k c es
      by k c [] f = tt
      by k c (e ∷ es) f = ((f.0.content, f.0.class), by k c es f.1)

-- ---- how many

pushed-few : (out es : List Entry) → length (pushed out es) ≤ length out + length es
unfolding pushed
pushed-few out [] = omega arith
pushed-few out (e ∷ es) =
    omega (arith, pushed-few (pick (repeats_last out e.content) out (out ++ e ∷ [])) es, by (repeats_last out e.content))
  where
    by : (t : Bool) → length (pick t out (out ++ e ∷ [])) ≤ suc (length out)
    by true = omega arith
    by false = omega (arith, length-append out (e ∷ []))

length_moved : (n : ℕ) (es : List Entry) → length (moved n es) ≡ length es
unfolding moved
length_moved n [] = refl
length_moved n (e ∷ es) = ap suc (length_moved n es)

kept-few : (limit : ℕ) (ks : List SignalEncoding) (g : ℕ) (end : Option ℕ) (l : Load) (bs : List (Block (List Entry))) → BlocksFit limit ks end bs
    → length (load_from g l bs).entries * least_length (get_or ks g Absent) ≤ length l.entries * least_length (get_or ks g Absent) + streams_length (get_or ks g Absent) g bs
unfolding load_from streams_length
kept-few limit ks g end l [] f = omega arith
kept-few limit ks g end l (y ∷ bs) f =
    let k : SignalEncoding = get_or ks g Absent in
    let es : List Entry = entries_in (part_at y g) in
    let m : ℕ = length l.times - overlap l.times y.times in
    let p = parts-each (length y.times) ks y.parts f.1.0.parts g in
    let here : length es * least_length k ≤ length (stream_in k (part_at y g)) = part-least k (length y.times) (part_at y g) p in
    let grown : length (load_block g l y).entries ≤ length l.entries + length es = omega (arith, pushed-few l.entries (moved m es), length_moved m es) in
    let most : length (load_block g l y).entries * least_length k ≤ (length l.entries + length es) * least_length k = mul-le-mul grown (omega arith) in
    let rest = kept-few limit ks g (some (last_or 0 y.times)) (load_block g l y) bs f.1.1 in
    omega arith

pub kept-least : (x : Image) → Valid x → (g : ℕ) → length (loads g x.blocks).entries * least_length (kind_at x g) ≤ streams_length (kind_at x g) g x.blocks
kept-least x v g = omega (arith, kept-few x.limit x.kinds g none (load [] [] 0) x.blocks v.blocks)
