-- By the loop's law, with the byte of `part_byte`.
use Rattle.packer.proofs.PackLaws.{written-step}
use Rattle.std.proofs.Common.{arith}
use Rattle.packer_pack.proofs.packing.Packing.symbol_bytes.Goals as goal

pub loop-i-preserved : goal.loop-i-preserved
loop-i-preserved g c = written-step _ _ _ _ c.loop-i.out c.loop-i.i (omega arith) c.loop-i.invariant c.part_byte.ensures
