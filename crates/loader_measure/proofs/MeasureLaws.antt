-- Measuring block after block: the bytes of the signal's streams so far, and the largest top class.
-- Assumes nothing.
use Prim.Native.Nat.{ℕ, suc, ◌+◌, ◌-◌, ◌≤◌, ◌<◌, max}
use mathlib.Core.Path.{◌≡◌, refl, ap, ◌∙◌, subst}
use mathlib.Core.List.{List, []}
use native.Mathlib.Omega.{arith}
use lib.ListN.{length, drop, drop_of_length-le}
use Rattle.lists.specs.Bytes.{Bytes}
use Rattle.stream.specs.Entries.{Entry}
use Rattle.image.specs.Block.{Block}
use Rattle.image.specs.Head.{image_limit}
use Rattle.loaded.specs.Opener.{kind_at, block_at, part_at, stream_in}
use Rattle.loaded.specs.Loading.{Load, load, load_block, load_from, loads}
use Rattle.walk.specs.Walk.{Opened, image_in, block_place, PartHere}
use Rattle.walk.proofs.HeadLaws.{means, head_in}
use Rattle.walk.proofs.BlockLaws.{blocks-left, end-place}
use Rattle.loader_measure.specs.Least.{streams_length}
use Rattle.walk_part.proofs.RoomLaws.{part-size, part_room}

-- before block number `number`
pub record Measuring (b : List ℕ) (g number at bytes top : ℕ) : Type 0 where
  pub l : Load
  pub rest : load_from g l (drop number (image_in b).blocks) ≡ loads g (image_in b).blocks
  pub size : bytes + streams_length (kind_at (image_in b) g) g (drop number (image_in b).blocks) ≡ streams_length (kind_at (image_in b) g) g (image_in b).blocks
  pub inside : number ≤ length (image_in b).blocks
  pub few : bytes ≤ at
  pub place : at ≡ block_place (image_in b) number
  pub class : top ≡ l.class

pub measuring-first : (b : List ℕ) (g at : ℕ) → at ≡ block_place (image_in b) 0 → Measuring b g 0 at 0 0
measuring-first b g at e =
    record { l = load [] [] 0; rest = refl; size = omega arith; inside = omega arith; few = omega arith; place = e; class = refl }

module _ (b : List ℕ) (g number at bytes top : ℕ) (y : Bytes b) (o : Opened b) (p : Measuring b g number at bytes top) (h : number < length (image_in b).blocks) where
  -- its stream lies before the next block
  pub stream-there : (from to t : ℕ) → PartHere from to t number g b → (bytes + (to - from) ≤ block_place (image_in b) (suc number)) × (block_place (image_in b) (suc number) ≤ image_limit)
  stream-there from to t q =
      let m = part_room b number at g from to t y o (record { exists = h; place = p.place }) q in
      (omega (arith, p.few), m.1)

  pub measuring-on : (from to t at' top' : ℕ) → PartHere from to t number g b → at' ≡ block_place (image_in b) (suc number) → top' ≡ max top t
      → Measuring b g (number + 1) at' (bytes + (to - from)) top'
  unfolding load_from streams_length
  measuring-on from to t at' top' q e f =
      let n : number + 1 ≡ suc number = omega arith in
      let x = image_in b in
      let next = block_at x number in
      let k = kind_at x g in
      let left = blocks-left x number h in
      let part : length (stream_in k (part_at next g)) ≡ to - from = part-size b number g from to t q in
      let all : bytes + (length (stream_in k (part_at next g)) + streams_length k g (drop (suc number) x.blocks)) ≡ streams_length k g x.blocks =
      subst (λ (bs : List (Block (List Entry))). bytes + streams_length k g bs ≡ streams_length k g x.blocks) left p.size in
      rw n (record {
        l = load_block g p.l next;
        rest = subst (λ (bs : List (Block (List Entry))). load_from g p.l bs ≡ loads g x.blocks) left p.rest;
        size = omega arith;
        inside = h;
        few = omega (arith, (stream-there from to t q).0);
        place = e;
        class = f ∙ ap (λ (u : ℕ). max u t) p.class ∙ ap (max p.l.class) q.class;
      })

pub measured : (b : List ℕ) (g number at bytes top : ℕ) → Bytes b → Opened b → Measuring b g number at bytes top → length (image_in b).blocks ≤ number
    → (bytes ≡ streams_length (kind_at (image_in b) g) g (image_in b).blocks) × (top ≡ (loads g (image_in b).blocks).class) × (bytes ≤ image_limit)
unfolding load_from streams_length
measured b g number at bytes top y o p h =
    let x = image_in b in
    let k = kind_at x g in
    let none_left : drop number x.blocks ≡ [] = drop_of_length-le x.blocks h in
    let all : p.l ≡ loads g x.blocks = subst (λ (bs : List (Block (List Entry))). load_from g p.l bs ≡ loads g x.blocks) none_left p.rest in
    let size : bytes + 0 ≡ streams_length k g x.blocks = subst (λ (bs : List (Block (List Entry))). bytes + streams_length k g bs ≡ streams_length k g x.blocks) none_left p.size in
    let n : number ≡ length x.blocks = omega (arith, p.inside) in
    let e : block_place x number ≡ length b = ap (block_place x) n ∙ end-place b x (means b y o) in
    (omega arith, p.class ∙ ap (λ (l : Load). l.class) all, omega (arith, p.few, p.place, (head_in b y o).most))
