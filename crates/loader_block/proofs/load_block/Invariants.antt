-- What is still to come makes of the output what all changes of the block make of the one before them. The measure is the bytes left.
use Prim.Native.Nat.{◌-◌}
use Rattle.value.specs.Class.{class_number}
use Rattle.loader_block.proofs.BlockLaws.{BlockGoing}
use Rattle.loader_block.proofs.load_block.Given as goal

abbrev pub invariant-loop-p : goal.invariant-loop-p
invariant-loop-p l =
    BlockGoing l.kind l.block.image.bytes.now l.block.number l.signal (class_number l.class) l.write l.base l.initial.p l.to l.initial.state l.initial.index l.initial.bytes l.p l.i
    l.state l.index l.bytes

abbrev pub decreases-loop-p : goal.decreases-loop-p
decreases-loop-p l = l.to - l.p
