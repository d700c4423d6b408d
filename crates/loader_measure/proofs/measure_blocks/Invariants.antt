-- The bytes and the top class of the blocks before, and the blocks that are left make of these what all blocks give.
use Rattle.loader_measure.proofs.MeasureLaws.{Measuring}
use Rattle.loader_measure.proofs.measure_blocks.Given as goal

abbrev pub invariant-loop-number : goal.invariant-loop-number
invariant-loop-number l = Measuring l.image.bytes.now l.signal l.number l.at l.bytes l.top
