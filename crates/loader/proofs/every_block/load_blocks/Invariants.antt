-- The output holds the entries of the blocks before, and the blocks that are left make of these what all blocks give.
use Rattle.value.specs.Class.{class_number}
use Rattle.loader.proofs.BlocksLaws.{Passing}
use Rattle.loader.proofs.every_block.load_blocks.Given as goal

abbrev pub invariant-loop-number : goal.invariant-loop-number
invariant-loop-number l =
    Passing l.image.bytes.now l.signal (class_number l.class) l.write l.initial.index l.initial.bytes l.number l.at l.times l.end l.state l.index l.bytes
