-- The entries that are left, passed, give what all entries of the block give. The measure is the bytes left.
use Prim.Native.Nat.{◌-◌}
use Rattle.cursor_point.proofs.BlockLaws.{Passing}
use Rattle.cursor_point.proofs.pass_block.Given as goal

abbrev pub invariant-loop-p : goal.invariant-loop-p
invariant-loop-p l = Passing l.kind l.block.image.bytes.now l.block.number l.signal l.block.at l.to l.t l.initial.held l.held l.p l.i

abbrev pub decreases-loop-p : goal.decreases-loop-p
decreases-loop-p l = l.to - l.p
