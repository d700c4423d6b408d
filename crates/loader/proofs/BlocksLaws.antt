-- Loading block after block, on plain lists and in an accepted image.
-- Assumes nothing.
use Prim.Native.Nat.{ℕ, suc, ◌+◌, ◌-◌, ◌*◌, ◌≤◌, ◌<◌}
use mathlib.Core.Path.{◌≡◌, refl, sym, ap, ◌∙◌, subst}
use mathlib.Core.Bool.{Bool, true, false}
use mathlib.Core.List.{List, [], ◌∷◌, map}
use mathlib.Core.Option.{Option, some, none}
use native.Mathlib.Omega.{arith}
use lib.ListN.{length, drop, drop_of_length-le}
use lib.Seq.{length-sets}
use Rattle.lists.specs.Bytes.{Bytes}
use Rattle.lists.specs.Last.{last_or}
use Rattle.signal.specs.declared.kind.SignalEncoding.{SignalEncoding}
use Rattle.stream.specs.Entries.{Entry}
use Rattle.image.specs.Block.{Block}
use Rattle.image.specs.Head.{image_limit}
use Rattle.image.specs.Image.{Image}
use Rattle.std.specs.Prelude as std
use Rattle.loaded.specs.Opener.{kind_at, block_at, part_at}
use Rattle.loaded.specs.Loading.{overlap, moved, pushed, Load, load, entries_in, load_block, load_from, loads}
use Rattle.loaded.specs.EntryBytes.{entries_bytes}
use Rattle.loaded.proofs.TableLaws.{overlap-both, joined_length}
use Rattle.loaded.specs.Reader.{index_in}
use Rattle.walk.specs.Walk.{Opened, image_in, block_place, last_time, end_held, shared_times}
use Rattle.walk.proofs.HeadLaws.{head_in}
use Rattle.walk.proofs.BlockLaws.{blocks-left, here, next-size, any-time}
use Rattle.walk_table.proofs.TableLaws.{overlap-shared, last-joined}
use Rattle.entry_same.specs.Kept.{KeptReads}
use Rattle.loader_block.specs.Output.{Output, output, all_taken, Room, nothing_kept, output_as, holding}
use Rattle.loader_block.specs.Blocks.{changes_in, top_of}
use Rattle.loader_block.specs.declared.Loading.{Loading}
use Rattle.loader_block.proofs.OutputLaws.{taken-pushed, Grows, grows_same, grows-both, all-grows, room-first}

-- ---- entries and class only grow

block-grows : (k : SignalEncoding) (c : ℕ) (w : Bool) (i b : List ℕ) (g : ℕ) (l : Load) (y : Block (List Entry))
    → Grows (holding k c w i b l.entries) (holding k c w i b (load_block g l y).entries)
block-grows k c w i b g l y =
    let es : List Entry = moved (length l.times - overlap l.times y.times) (entries_in (part_at y g)) in
    subst (λ (o : Output). Grows (holding k c w i b l.entries) o) (taken-pushed k c w i b l.entries es) (all-grows k c w (holding k c w i b l.entries) es)

blocks-grow : (k : SignalEncoding) (c : ℕ) (w : Bool) (i b : List ℕ) (g : ℕ) (l : Load) (bs : List (Block (List Entry)))
    → Grows (holding k c w i b l.entries) (holding k c w i b (load_from g l bs).entries)
unfolding load_from
blocks-grow k c w i b g l [] = grows_same _
blocks-grow k c w i b g l (y ∷ bs) = grows-both _ (holding k c w i b (load_block g l y).entries) _ (block-grows k c w i b g l y) (blocks-grow k c w i b g (load_block g l y) bs)

pub class-grows : (g : ℕ) (l : Load) (bs : List (Block (List Entry))) → l.class ≤ (load_from g l bs).class
unfolding load_from
class-grows g l [] = omega arith
class-grows g l (y ∷ bs) = omega (arith, class-grows g (load_block g l y) bs)

-- ---- in an accepted image

held-sizes : (k : SignalEncoding) (c : ℕ) (w : Bool) (i b : List ℕ) (es : List Entry) → (length (holding k c w i b es).index ≡ length i) × (length (holding k c w i b es).bytes ≡ length b)
held-sizes k c false i b es = (refl, refl)
held-sizes k c true i b es = (length-sets i 0 (map index_in es), length-sets b 0 (entries_bytes k c es))

-- before block number `number`
pub record Passing (b : List ℕ) (g c : ℕ) (w : Bool) (index bytes : List ℕ) (number at times : ℕ) (end : std.Option ℕ) (s : Loading) (index' bytes' : List ℕ) : Type 0 where
  pub l : Load
  pub rest : load_from g l (drop number (image_in b).blocks) ≡ loads g (image_in b).blocks
  pub size : times ≡ length l.times
  pub ends : last_time l.times ≡ end_held end
  pub early : times ≤ at
  pub few : s.count ≤ at
  pub used : s.used ≤ 4 * at
  pub place : at ≡ block_place (image_in b) number
  pub reads : KeptReads (kind_at (image_in b) g) b s.last
  pub same : output_as (kind_at (image_in b) g) b s index' bytes' ≡ holding (kind_at (image_in b) g) c w index bytes l.entries

pub passing-sizes : (b : List ℕ) (g c : ℕ) (w : Bool) (index bytes : List ℕ) (number at times : ℕ) (end : std.Option ℕ) (s : Loading) (index' bytes' : List ℕ)
    → Passing b g c w index bytes number at times end s index' bytes' → (length index' ≡ length index) × (length bytes' ≡ length bytes)
passing-sizes b g c w index bytes number at times end s index' bytes' p =
    let z = held-sizes (kind_at (image_in b) g) c w index bytes p.l.entries in
    (ap (λ (q : Output). length q.index) p.same ∙ z.0, ap (λ (q : Output). length q.bytes) p.same ∙ z.1)

held-nothing : (k : SignalEncoding) (c : ℕ) (w : Bool) (i b : List ℕ) → output 0 0 none i b ≡ holding k c w i b []
unfolding entries_bytes
held-nothing k c false i b = refl
held-nothing k c true i b = refl

pub passing-first : (b : List ℕ) (g c : ℕ) (w : Bool) (index bytes : List ℕ) (at : ℕ) (s : Loading) → Bytes b → Opened b → at ≡ block_place (image_in b) 0
    → s ≡ nothing_kept → Passing b g c w index bytes 0 at 0 std.None s index bytes
passing-first b g c w index bytes at s y o e z = rw z (record {
  l = load [] [] 0;
  rest = refl;
  size = refl;
  ends = refl;
  early = omega arith;
  few = omega arith;
  used = omega arith;
  place = e;
  reads = tt;
  same = held-nothing (kind_at (image_in b) g) c w index bytes;
})

module _ (b : List ℕ) (g c : ℕ) (w : Bool) (index bytes : List ℕ) (number at times : ℕ) (end : std.Option ℕ) (s : Loading) (index' bytes' : List ℕ) (y : Bytes b) (o : Opened b)
    (p : Passing b g c w index bytes number at times end s index' bytes') (h : number < length (image_in b).blocks) where
  abbrev x : Image
  x = image_in b

  abbrev next : Block (List Entry)
  next = block_at x number

  -- the times that the table has already
  overlapping : overlap p.l.times next.times ≡ shared_times (end_held end) next.times
  overlapping = overlap-shared p.l.times next.times ∙ ap (λ (e : Option ℕ). shared_times e next.times) p.ends

  pub shared-small : (n : ℕ) → n ≡ shared_times (end_held end) next.times → n ≤ times
  shared-small n e = omega (arith, overlapping, p.size, (overlap-both p.l.times next.times).0)

  rest-next : load_from g (load_block g p.l next) (drop (suc number) x.blocks) ≡ loads g x.blocks
  unfolding load_from
  rest-next = subst (λ (bs : List (Block (List Entry))). load_from g p.l bs ≡ loads g x.blocks) (blocks-left x number h) p.rest

  module _ (base : ℕ) (from : base ≡ length p.l.times - overlap p.l.times next.times) where
    -- what the block's changes make of the output
    made : all_taken (kind_at x g) c w (output_as (kind_at x g) b s index' bytes') (changes_in x number g base) ≡ holding (kind_at x g) c w index bytes (load_block g p.l next).entries
    made =
        ap (λ (q : Output). all_taken (kind_at x g) c w q (changes_in x number g base)) p.same
        ∙ taken-pushed (kind_at x g) c w index bytes p.l.entries (changes_in x number g base)
        ∙ ap (λ (n : ℕ). holding (kind_at x g) c w index bytes (pushed p.l.entries (moved n (entries_in (part_at next g))))) from

    made-room : Room w (holding (kind_at x g) c w index bytes (loads g x.blocks).entries) (length index) (length bytes)
        → Room w (all_taken (kind_at x g) c w (output_as (kind_at x g) b s index' bytes') (changes_in x number g base)) (length index') (length bytes')
    made-room r =
        let k = kind_at x g in
        let z = passing-sizes b g c w index bytes number at times end s index' bytes' p in
        let grown = subst (λ (l : Load). Grows (holding k c w index bytes (load_block g p.l next).entries) (holding k c w index bytes l.entries)) rest-next
        (blocks-grow k c w index bytes g (load_block g p.l next) (drop (suc number) x.blocks)) in
        rw (made, z.0, z.1) (room-first w _ _ (length index) (length bytes) grown r)

  pub next-class : (loads g x.blocks).class ≤ c → top_of x number g ≤ c
  next-class q =
      let grown = subst (λ (l : Load). (load_block g p.l next).class ≤ l.class) rest-next (class-grows g (load_block g p.l next) (drop (suc number) x.blocks)) in
      omega arith

  -- its times lie before the next block
  pub next-times : (at + length next.times ≤ block_place x (suc number)) × (block_place x (suc number) ≤ image_limit)
  next-times =
      let n = next-size x number h in
      let q = p.place in
      let i = (here number at b y o (record { exists = h; place = p.place })).most in
      let m = (head_in b y o).most in
      (omega arith, omega arith)

  -- with n of its times in the table already
  module _ (n base : ℕ) (e : n ≡ shared_times (end_held end) next.times) (f : base ≡ times - n) where
    from-base : base ≡ length p.l.times - overlap p.l.times next.times
    from-base = omega (arith, e, f, overlapping, p.size)

    pub base-early : base ≤ at
    base-early = omega (arith, f, p.early)

    pub next-room : Room w (holding (kind_at x g) c w index bytes (loads g x.blocks).entries) (length index) (length bytes)
        → Room w (all_taken (kind_at x g) c w (output_as (kind_at x g) b s index' bytes') (changes_in x number g base)) (length index') (length bytes')
    next-room r = made-room base from-base r

    pub passing-on : (times' at' end' : ℕ) (s' : Loading) (i j : List ℕ) → times' ≡ base + length next.times → at' ≡ block_place x (suc number) → end' ≡ last_or 0 next.times
        → KeptReads (kind_at x g) b s'.last → s'.count ≤ block_place x (suc number) → s'.used ≤ 4 * block_place x (suc number)
        → output_as (kind_at x g) b s' i j ≡ all_taken (kind_at x g) c w (output_as (kind_at x g) b s index' bytes') (changes_in x number g base)
        → Passing b g c w index bytes (number + 1) at' times' (std.Some end') s' i j
    passing-on times' at' end' s' i j k l u r few used q =
        let m : number + 1 ≡ suc number = omega arith in
        rw m (record {
          l = load_block g p.l next;
          rest = rest-next;
          size = k ∙ ap (λ (v : ℕ). v + length next.times) from-base ∙ sym (joined_length p.l.times next.times);
          ends = last-joined p.l.times next.times (any-time number b y o h) ∙ ap some (sym u);
          early = omega (arith, base-early, next-times.0);
          few = omega arith;
          used = omega arith;
          place = l;
          reads = r;
          same = q ∙ made base from-base;
        })

pub passed : (b : List ℕ) (g c : ℕ) (w : Bool) (index bytes : List ℕ) (number at times : ℕ) (end : std.Option ℕ) (s : Loading) (index' bytes' : List ℕ)
    → Passing b g c w index bytes number at times end s index' bytes' → length (image_in b).blocks ≤ number
    → output_as (kind_at (image_in b) g) b s index' bytes' ≡ holding (kind_at (image_in b) g) c w index bytes (loads g (image_in b).blocks).entries
unfolding load_from
passed b g c w index bytes number at times end s index' bytes' p h =
    let x = image_in b in
    let none_left : drop number x.blocks ≡ [] = drop_of_length-le x.blocks h in
    let all : p.l ≡ loads g x.blocks = subst (λ (bs : List (Block (List Entry))). load_from g p.l bs ≡ loads g x.blocks) none_left p.rest in
    p.same ∙ ap (λ (l : Load). holding (kind_at x g) c w index bytes l.entries) all
