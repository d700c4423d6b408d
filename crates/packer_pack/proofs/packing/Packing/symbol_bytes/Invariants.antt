-- By the loop's law, with the byte of `part_byte`.
use Rattle.std.proofs.Common.{◌+◌, ◌-◌}
use Rattle.value.specs.Class.{class_number}
use Rattle.packer.specs.Given.{number_given}
use Rattle.packer.proofs.PackLaws.{Written}
use Rattle.packer_pack.proofs.packing.Packing.symbol_bytes.Given as goal

abbrev pub invariant-loop-i : goal.invariant-loop-i
invariant-loop-i g l =
    Written (number_given (g.S.Source.given l.self.source) (class_number l.self.states)) l.initial.out l.at l.left l.out (l.at + l.i) (l.left - l.i)
