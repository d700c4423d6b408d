-- What is still to come makes of the output what all changes of the block make of the one before them.
use Prim.Native.Nat.{◌+◌, ◌<◌}
use mathlib.Core.Path.{◌≡◌, refl, sym, ◌∙◌}
use native.Mathlib.Omega.{arith}
use lib.ListN.{length}
use Rattle.value.specs.Class.{class_number}
use Rattle.value.proofs.ClassLaws.{number_small}
use Rattle.stream.specs.Answer.{change_at, IsChange}
use Rattle.walk.specs.Open.{image_of, block_of}
use Rattle.walk.proofs.OpenBlock.{standing}
use Rattle.loader_block.specs.Blocks.{top_of}
use Rattle.loader_block.proofs.StreamLaws.{Turn, entry-bytes, change-room, going_on}
use Rattle.loader_block.proofs.BlockLaws.{Begins, begins, going-first, room-there, block-done, block-turn, block-not-bad}
use Rattle.loader_block.proofs.load_block.Goals as goal
use Rattle.loader_block.proofs.load_block.Goals.{After-part_in-part, In-loop-p, In-Some}

-- the block, before its first change
known : (c : goal.After-part_in-part) → let b = c.args.block in Begins b.image.bytes.now b.number b.at c.args.signal c.part_in-part.result.from c.part_in-part.result.to
known c =
    let b = c.args.block in
    begins b.image.bytes.now b.number b.at c.args.signal _ _ _ b.image.fits b.image.opened (standing b) c.part_in-part.ensures

-- the same in the loop
begun : (c : goal.In-loop-p) → let b = c.args.block in Begins b.image.bytes.now b.number b.at c.args.signal c.part_in-part.result.from c.part_in-part.result.to
begun c =
    let b = c.args.block in
    begins b.image.bytes.now b.number b.at c.args.signal _ _ _ b.image.fits b.image.opened (standing b) c.part_in-part.ensures

-- the change that was read
turned : (c : goal.In-Some) → let a = c.args in let b = a.block in
    Turn c.kind_at-kind.result b.image.bytes.now (length (block_of b).times) (top_of (image_of b.image) b.number a.signal)
    c.loop-p.p c.part_in-part.result.to c.loop-p.invariant.ahead c.in-Some.read.delta c.in-Some.read.value c.in-Some.read.next
turned c =
    let a = c.args in
    let b = a.block in
    let l = c.loop-p in
    block-turn c.kind_at-kind.result b.image.bytes.now b.number b.at a.signal (class_number a.class) a.write a.base c.part_in-part.result.from c.part_in-part.result.to
    a.state a.index.now a.bytes.now c.kind_at-kind.ensures
    (begins b.image.bytes.now b.number b.at a.signal _ _ _ b.image.fits b.image.opened (standing b) c.part_in-part.ensures)
    l.p l.i l.state l.index l.bytes c.in-Some.read.delta c.in-Some.read.value c.in-Some.read.next b.image.fits c.loop-p-test.true l.invariant
    (sym c.known_change.ensures ∙ c.in-Some.is)

-- a change stands where the loop is
there : (c : goal.In-loop-p) → IsChange (change_at c.kind_at-kind.result c.args.block.image.bytes.now c.loop-p.p)
there c =
    let a = c.args in
    let b = a.block in
    let l = c.loop-p in
    block-not-bad c.kind_at-kind.result b.image.bytes.now b.number b.at a.signal (class_number a.class) a.write a.base c.part_in-part.result.from c.part_in-part.result.to
    a.state a.index.now a.bytes.now c.kind_at-kind.ensures (begun c) l.p l.i l.state l.index l.bytes b.image.fits c.loop-p-test.true l.invariant

pub loop-p-init : goal.loop-p-init
loop-p-init c =
    let a = c.args in
    let b = a.block in
    going-first c.kind_at-kind.result b.image.bytes.now b.number b.at a.signal (class_number a.class) a.write a.base c.part_in-part.result.from c.part_in-part.result.to
    a.state a.index.now a.bytes.now c.kind_at-kind.ensures (known c) a.base c.requires.placed.0 refl

pub known_change-requires : goal.known_change-requires
known_change-requires c = there c

pub overflow_add-i : goal.overflow_add-i
overflow_add-i c =
    let t = turned (goal.at.overflow_add-i c).In-Some in
    let k = known (goal.at.overflow_add-i c).After-part_in-part in
    let j : c.loop-p.i + c.in-Some.read.delta ≡ c.args.base + t.first.index = omega (arith, c.loop-p.invariant.at, t.index) in
    omega (arith, t.below, c.requires.placed.1, k.place, k.end)

pub take_change-state-requires : goal.take_change-state-requires
take_change-state-requires c =
    let a = c.args in
    let b = a.block in
    let r = c.requires in
    let t = turned (goal.at.take_change-state-requires c).In-Some in
    let l = c.loop-p in
    let g = l.invariant in
    let k = known (goal.at.take_change-state-requires c).After-part_in-part in
    let few : l.state.count + 1 < 4294967296 = omega (arith, t.later, t.within, g.few, g.start, k.place, k.end, r.placed.2) in
    let long = entry-bytes c.kind_at-kind.result b.image.bytes.now _ _ l.p _ (class_number a.class) _ c.in-Some.read.delta c.in-Some.read.value c.in-Some.read.next t r.block_room.0
    (number_small a.class) in record {
      kept_reads = (g.reads, (l.p, c.in-Some.read.delta, sym c.known_change.ensures ∙ c.in-Some.is), rw t.content (omega (arith, t.class, r.block_room.0)));
      count_bound = (
        few,
        omega (arith, t.later, t.within, g.used, g.start, k.place, k.end, r.placed.3),
        change-room c.kind_at-kind.result b.image.bytes.now _ _ (class_number a.class) a.write _ _ _ _ _ l.p l.i l.state l.index l.bytes g c.in-Some.read.delta c.in-Some.read.value
            c.in-Some.read.next t
            (room-there c.kind_at-kind.result b.image.bytes.now b.number b.at a.signal (class_number a.class) a.write a.base c.part_in-part.result.from c.part_in-part.result.to
            a.state a.index.now a.bytes.now c.kind_at-kind.ensures k _ _ r.block_room.1),
      );
    }

pub loop-p-smaller : goal.loop-p-smaller
loop-p-smaller c = let t = turned (goal.at.loop-p-smaller c).In-Some in omega (arith, t.later, t.within)

pub loop-p-preserved : goal.loop-p-preserved
loop-p-preserved c =
    let a = c.args in
    let b = a.block in
    let t = turned (goal.at.loop-p-preserved c).In-Some in
    let l = c.loop-p in
    let long = entry-bytes c.kind_at-kind.result b.image.bytes.now _ _ l.p _ (class_number a.class) _ c.in-Some.read.delta c.in-Some.read.value c.in-Some.read.next t c.requires.block_room.0
    (number_small a.class) in
    let e = c.take_change-state.ensures in
    going_on c.kind_at-kind.result b.image.bytes.now _ _ (class_number a.class) a.write _ _ _ _ _ l.p l.i l.state l.index l.bytes l.invariant c.in-Some.read.delta c.in-Some.read.value
    c.in-Some.read.next t
    c.take_change-state.result _ _ e.0 e.1 (omega (arith, e.2)) e.3

pub returns-in-None : goal.returns-in-None
returns-in-None c = absurd (there (goal.at.returns-in-None c).In-loop-p (sym c.known_change.ensures ∙ c.in-None.is))

pub returns : goal.returns
returns c =
    let a = c.args in
    let b = a.block in
    let l = c.loop-p in
    let d = block-done c.kind_at-kind.result b.image.bytes.now b.number b.at a.signal (class_number a.class) a.write a.base c.part_in-part.result.from c.part_in-part.result.to
    a.state a.index.now a.bytes.now c.kind_at-kind.ensures (known (goal.at.returns c).After-part_in-part)
    l.p l.i l.state l.index l.bytes l.invariant (omega arith) c.requires.placed.2 c.requires.placed.3 in
    record { reads = d.0; bounds = (d.1.0, d.1.1); taken = d.1.2 }
