-- The bytes and the top class of the blocks before, and the blocks that are left make of these what all blocks give.
use Prim.Native.Nat.{◌<◌}
use native.Mathlib.Omega.{arith}
use lib.ListN.{length}
use Rattle.walk.specs.Open.{image_of}
use Rattle.loader_measure.proofs.MeasureLaws.{measuring-first, stream-there, measuring-on, measured}
use Rattle.loader_measure.proofs.measure_blocks.Goals as goal
use Rattle.loader_measure.proofs.measure_blocks.Goals.{In-loop-number}

-- there is another block
below : (c : goal.In-loop-number) → c.loop-number.number < length (image_of c.args.image).blocks
below c = omega (arith, c.loop-number-test.true, c.block_count-number-end.ensures)

pub loop-number-init : goal.loop-number-init
loop-number-init c = let a = c.args in measuring-first a.image.bytes.now a.signal c.first_block-at.result c.first_block-at.ensures

pub overflow_add-bytes : goal.overflow_add-bytes
overflow_add-bytes c =
    let l = c.loop-number in
    let a = c.args.image in
    let r = c.part_in-part.result in
    let m = stream-there a.bytes.now c.args.signal l.number l.at l.bytes l.top a.fits a.opened l.invariant
    (below (goal.at.overflow_add-bytes c).In-loop-number) r.from r.to r.top c.part_in-part.ensures in
    omega (arith, m.0, m.1)

pub loop-number-preserved : goal.loop-number-preserved
loop-number-preserved c =
    let l = c.loop-number in
    let a = c.args.image in
    let r = c.part_in-part.result in
    measuring-on a.bytes.now c.args.signal l.number l.at l.bytes l.top a.fits a.opened l.invariant (below (goal.at.loop-number-preserved c).In-loop-number)
    r.from r.to r.top c.end-at.result c.max-top.result c.part_in-part.ensures c.end-at.ensures c.max-top.ensures

pub returns : goal.returns
returns c =
    let l = c.loop-number in
    let a = c.args.image in
    let q = c.block_count-number-end.ensures in
    measured a.bytes.now c.args.signal l.number l.at l.bytes l.top a.fits a.opened l.invariant (omega arith)
