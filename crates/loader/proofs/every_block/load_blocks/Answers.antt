-- The output holds the entries of the blocks before, and the blocks that are left make of these what all blocks give.
use Prim.Native.Nat.{ℕ, ◌+◌, ◌-◌, ◌<◌}
use mathlib.Core.Path.{refl, ap}
use native.Mathlib.Omega.{arith}
use lib.ListN.{length}
use Rattle.value.specs.Class.{class_number}
use Rattle.walk.specs.Open.{image_of}
use Rattle.loader.proofs.BlocksLaws.{passing-first, shared-small, base-early, next-room, next-class, next-times, passing-on, passed}
use Rattle.loader.proofs.every_block.load_blocks.Goals as goal
use Rattle.loader.proofs.every_block.load_blocks.Goals.{In-loop-number}

-- there is another block
below : (c : goal.In-loop-number) → c.loop-number.number < length (image_of c.args.image).blocks
below c = omega (arith, c.loop-number-test.true, c.block_count-number-end.ensures)

pub loop-number-init : goal.loop-number-init
loop-number-init c =
    let a = c.args in
    passing-first a.image.bytes.now a.signal (class_number a.class) a.write a.index.now a.bytes.now c.first_block-at.result c.nothing-state.result
    a.image.fits a.image.opened c.first_block-at.ensures c.nothing-state.ensures

pub overflow_sub-base : goal.overflow_sub-base
overflow_sub-base c =
    let l = c.loop-number in
    let a = c.args in
    shared-small a.image.bytes.now a.signal (class_number a.class) a.write a.index.now a.bytes.now l.number l.at l.times l.end l.state l.index l.bytes
    a.image.fits a.image.opened l.invariant (below (goal.at.overflow_sub-base c).In-loop-number) _ c.shared.ensures

pub load_block-state-requires : goal.load_block-state-requires
load_block-state-requires c =
    let l = c.loop-number in
    let a = c.args in
    let h = below (goal.at.load_block-state-requires c).In-loop-number in record {
      placed = (
        l.invariant.reads,
        base-early a.image.bytes.now a.signal (class_number a.class) a.write a.index.now a.bytes.now l.number l.at l.times l.end l.state l.index l.bytes
            a.image.fits a.image.opened l.invariant h _ _ c.shared.ensures refl,
        l.invariant.few,
        l.invariant.used,
      );
      block_room = (
        next-class a.image.bytes.now a.signal (class_number a.class) a.write a.index.now a.bytes.now l.number l.at l.times l.end l.state l.index l.bytes
            a.image.fits a.image.opened l.invariant h c.requires.0,
        next-room a.image.bytes.now a.signal (class_number a.class) a.write a.index.now a.bytes.now l.number l.at l.times l.end l.state l.index l.bytes
            a.image.fits a.image.opened l.invariant h _ _ c.shared.ensures refl c.requires.1,
      );
    }

pub overflow_add-times : goal.overflow_add-times
overflow_add-times c =
    let l = c.loop-number in
    let a = c.args in
    let h = below (goal.at.overflow_add-times c).In-loop-number in
    let n = next-times a.image.bytes.now a.signal (class_number a.class) a.write a.index.now a.bytes.now l.number l.at l.times l.end l.state l.index l.bytes
    a.image.fits a.image.opened l.invariant h in
    let e = base-early a.image.bytes.now a.signal (class_number a.class) a.write a.index.now a.bytes.now l.number l.at l.times l.end l.state l.index l.bytes
    a.image.fits a.image.opened l.invariant h _ _ c.shared.ensures refl in
    omega (arith, c.time_count.ensures, e, n.0, n.1)

pub loop-number-preserved : goal.loop-number-preserved
loop-number-preserved c =
    let l = c.loop-number in
    let a = c.args in
    let s = c.shared in
    let e = c.load_block-state.ensures in
    passing-on a.image.bytes.now a.signal (class_number a.class) a.write a.index.now a.bytes.now l.number l.at l.times l.end l.state l.index l.bytes
    a.image.fits a.image.opened l.invariant (below (goal.at.loop-number-preserved c).In-loop-number) s.result (l.times - s.result) s.ensures refl
    _ _ _ c.load_block-state.result _ _
    (ap (λ (n : ℕ). l.times - s.result + n) c.time_count.ensures) c.end-at.ensures
    c.last_time.ensures e.reads e.bounds.0 e.bounds.1 e.taken

pub returns : goal.returns
returns c =
    let l = c.loop-number in
    let a = c.args in
    let q = c.block_count-number-end.ensures in
    passed a.image.bytes.now a.signal (class_number a.class) a.write a.index.now a.bytes.now l.number l.at l.times l.end l.state l.index l.bytes
    l.invariant (omega arith)
