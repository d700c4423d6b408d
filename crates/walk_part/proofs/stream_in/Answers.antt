-- Past the blocks there is no part.
use mathlib.Core.Path.{sym, ◌∙◌}
use native.Mathlib.Omega.{arith}
use Rattle.walk_part.proofs.PartLaws.{stream-of, stream-past}
use Rattle.walk_part.proofs.stream_in.Goals as goal

pub returns-then-block_count-block : goal.returns-then-block_count-block
returns-then-block_count-block c =
    let a = c.args in
    stream-past a.image.bytes.now a.block a.signal (omega (arith, c.if-block_count-block.true, c.block_count.ensures))

pub returns : goal.returns
returns c =
    let a = c.args in
    rw (c.block.ensures.0, c.block.ensures.1) at c.part_in-part.ensures.stream ∙ sym (stream-of a.image.bytes.now a.block a.signal)
