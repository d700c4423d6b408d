-- What loading finds in a block of an accepted image.
-- Assumes nothing.
use Prim.Native.Nat.{ℕ, suc, ◌+◌, ◌-◌, ◌*◌, ◌≤◌, ◌<◌}
use mathlib.Core.Path.{◌≡◌, refl, sym, ap, ◌∙◌}
use mathlib.Core.Bool.{Bool}
use mathlib.Core.List.{List, ◌++◌}
use native.Mathlib.Omega.{arith}
use lib.ListN.{length, take, drop, take-append-drop}
use Rattle.lists.specs.Bytes.{Bytes}
use Rattle.signal.specs.declared.kind.SignalEncoding.{SignalEncoding}
use Rattle.signal.specs.declared.decode.ChangeValue.{ChangeValue}
use Rattle.std.specs.Prelude as std
use Rattle.stream.specs.Answer.{change_at, read_of}
use Rattle.stream.specs.Entries.{stream_bytes}
use Rattle.image.specs.Head.{image_limit}
use Rattle.codec.specs.Valid.{BlockFits}
use Rattle.codec.proofs.Growth.{parts-each}
use Rattle.loaded.specs.Opener.{kind_at, block_at, part_at, stream_in}
use Rattle.loaded.specs.Loading.{entries_in, top_in}
use Rattle.walk.specs.Walk.{Opened, image_in, block_place, BlockHere, PartHere}
use Rattle.walk.proofs.HeadLaws.{means}
use Rattle.walk.proofs.BlockLaws.{fits_in}
use Rattle.walk_part.proofs.PartLaws.{stream-entries, entries_fit}
use Rattle.walk_part.proofs.RoomLaws.{part-size, part_room}
use Rattle.entry_same.specs.Kept.{KeptReads}
use Rattle.loader_block.specs.Output.{all_taken, Room, output_as}
use Rattle.loader_block.specs.Blocks.{changes_in, top_of}
use Rattle.loader_block.specs.declared.Loading.{Loading}
use Rattle.loader_block.proofs.StreamLaws.{Ahead, Turn, turn, not-bad, Going, gone}

-- before the first change of a signal in a block
pub record Begins (b : List ℕ) (number at g from to : ℕ) : Type 0 where
  pub ahead : Ahead (kind_at (image_in b) g) b (length (block_at (image_in b) number).times) (top_in (part_at (block_at (image_in b) number) g)) from to
  pub prev : ahead.prev ≡ 0
  pub entries : ahead.entries ≡ entries_in (part_at (block_at (image_in b) number) g)
  pub few : length (block_at (image_in b) number).times ≤ 65535
  pub place : at + length (block_at (image_in b) number).times + (to - from) ≤ block_place (image_in b) (suc number)
  pub end : block_place (image_in b) (suc number) ≤ image_limit
  pub ordered : from ≤ to

pub begins : (b : List ℕ) (number at g from to top : ℕ) → Bytes b → Opened b → BlockHere number at b
    → PartHere from to top number g b → Begins b number at g from to
begins b number at g from to top y o h p =
    let x = image_in b in
    let ks = x.kinds in
    let n = block_at x number in
    let k = kind_at x g in
    let m = means b y o in
    let q = part_at n g in
    let f : BlockFits x.limit ks n = fits_in number b y o h.exists in
    let pf = parts-each (length n.times) ks n.parts f.parts g in
    let s : take (to - from) (drop from b) ≡ stream_bytes k 0 (entries_in q) = p.stream ∙ stream-entries k q in
    let size : length (stream_in k q) ≡ to - from = part-size b number g from to top p in
    let ls : length (stream_bytes k 0 (entries_in q)) ≡ to - from = sym (ap length (stream-entries k q)) ∙ size in
    let few : length n.times ≤ 65535 = omega (arith, f.few, m.valid.high) in
    let room = part_room b number at g from to top y o h p in
    record {
      ahead = record {
        prev = 0;
        least = 0;
        entries = entries_in q;
        tail = drop (to - from) (drop from b);
        bytes = sym (take-append-drop (to - from) (drop from b)) ∙ ap (λ (l : List ℕ). l ++ drop (to - from) (drop from b)) s;
        size = omega (arith, p.ordered);
        inside = p.inside;
        fits = entries_fit k _ q pf;
        order = omega arith;
      };
      prev = refl;
      entries = refl;
      few = few;
      place = room.0;
      end = room.1;
      ordered = p.ordered;
    }

-- ---- the loop over its changes

abbrev pub BlockGoing : (k : SignalEncoding) (b : List ℕ) (number g c : ℕ) (w : Bool) (base from to : ℕ) (r : Loading) (index bytes : List ℕ) (p i : ℕ) (s : Loading) (index' bytes' : List ℕ) → Type 0
BlockGoing k b number g c w base from to r index bytes p i s index' bytes' =
    Going k b (length (block_at (image_in b) number).times) (top_of (image_in b) number g) c w base from to
    (output_as k b r index bytes) (changes_in (image_in b) number g base) p i s index' bytes'

module _ (k : SignalEncoding) (b : List ℕ) (number at g c : ℕ) (w : Bool) (base from to : ℕ) (s : Loading) (index bytes : List ℕ)
    (e : k ≡ kind_at (image_in b) g) (m : Begins b number at g from to) where
  pub going-first : (i : ℕ) → KeptReads (kind_at (image_in b) g) b s.last → i ≡ base → BlockGoing k b number g c w base from to s index bytes from i s index bytes
  going-first i l f =
      rw e (record {
        ahead = m.ahead;
        at = omega (arith, m.prev);
        reads = l;
        same = rw m.entries refl;
        start = omega arith;
        few = omega arith;
        used = omega arith;
        index-size = refl;
        bytes-size = refl;
      })

  pub room-there : (i n : ℕ) → Room w (all_taken (kind_at (image_in b) g) c w (output_as (kind_at (image_in b) g) b s index bytes) (changes_in (image_in b) number g base)) i n
      → Room w (all_taken k c w (output_as k b s index bytes) (changes_in (image_in b) number g base)) i n
  room-there i n h = rw e h

  pub block-done : (p i : ℕ) (t : Loading) (index' bytes' : List ℕ) → BlockGoing k b number g c w base from to s index bytes p i t index' bytes' → to ≤ p → s.count ≤ at → s.used ≤ 4 * at
      → KeptReads (kind_at (image_in b) g) b t.last × ((t.count ≤ block_place (image_in b) (suc number)) × (t.used ≤ 4 * block_place (image_in b) (suc number))
      × (output_as (kind_at (image_in b) g) b t index' bytes' ≡ all_taken (kind_at (image_in b) g) c w (output_as (kind_at (image_in b) g) b s index bytes) (changes_in (image_in b) number g base)))
  block-done p i t index' bytes' d h few used =
      let x : output_as k b t index' bytes' ≡ all_taken k c w (output_as k b s index bytes) (changes_in (image_in b) number g base) = gone k b _ _ c w _ from to _ _ p i t index' bytes' d h in
      let y = rw e at x in
      let z : p ≤ to = omega (arith, d.ahead.size) in
      (rw e at d.reads, (omega (arith, d.few, d.start, m.place, m.ordered), omega (arith, d.used, d.start, m.place, m.ordered), y))

  -- one change of it
  pub block-turn : (p i : ℕ) (t : Loading) (index' bytes' : List ℕ) (d : ℕ) (v : ChangeValue) (next : ℕ) → (y : Bytes b) → (h : p < to)
      → (x : BlockGoing k b number g c w base from to s index bytes p i t index' bytes')
      → change_at k b p ≡ read_of d v next → Turn k b (length (block_at (image_in b) number).times) (top_of (image_in b) number g) p to x.ahead d v next
  block-turn p i t index' bytes' d v next y h x f = turn k b _ _ p to y m.few h x.ahead d v next f

  pub block-not-bad : (p i : ℕ) (t : Loading) (index' bytes' : List ℕ) → Bytes b → p < to → BlockGoing k b number g c w base from to s index bytes p i t index' bytes' → change_at k b p ≡ std.None → ⊥
  block-not-bad p i t index' bytes' y h x f = not-bad k b _ _ p to y m.few h x.ahead f
