-- Past the blocks there is no part.
-- Assumes nothing.
use Rattle.std.proofs.Common.{◌≤◌, length, sym, ◌∙◌, arith}
use Rattle.walk.specs.Walk.{image_in, PartHere}
use Rattle.walk_part.proofs.PartLaws.{stream-of, stream-past, stream-place-past}
use Rattle.interface.proofs.opened.wejumo_opened_stream.Goals as goal
use Rattle.interface.proofs.opened.wejumo_opened_stream.Goals.{Then-block_count-block, After-part_in}

found : (c : goal.After-part_in) → PartHere c.part_in.result.from c.part_in.result.to c.part_in.result.top
    c.args.block c.args.signal c.args.image.now
found c = rw (c.block.ensures.0, c.block.ensures.1) at c.part_in.ensures

past : (c : goal.Then-block_count-block) → length (image_in c.args.image.now).blocks ≤ c.args.block
past c = omega (arith, c.if-block_count-block.true, c.block_count.ensures)

pub returns-then-block_count-block : goal.returns-then-block_count-block
returns-then-block_count-block c = let a = c.args in (stream-past a.image.now a.block a.signal (past c), omega arith, stream-place-past a.image.now a.block a.signal (past c))

pub part_numbers-requires : goal.part_numbers-requires
part_numbers-requires c = (found c).ordered

pub returns : goal.returns
returns c =
    let a = c.args in
    let w = found (goal.at.returns c).After-part_in in
    let n = c.part_numbers.ensures in
    (rw (n.0, n.1) (w.stream ∙ sym (stream-of a.image.now a.block a.signal)), omega (arith, w.ordered, w.inside, n.0, n.1), n.0 ∙ w.begin)
