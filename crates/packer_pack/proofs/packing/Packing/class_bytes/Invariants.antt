-- By the loop's law, with the byte of `standing_symbols`.
use Rattle.std.proofs.Common.{◌+◌, ◌-◌}
use Rattle.value.specs.Class.{class_number}
use Rattle.packer.specs.Given.{number_given}
use Rattle.packer.proofs.PackLaws.{Written}
use Rattle.packer_pack.proofs.packing.Packing.class_bytes.Given as goal

abbrev pub invariant-loop-left : goal.invariant-loop-left
invariant-loop-left g l =
    Written (number_given (g.S.Source.given l.self.source) (class_number l.states)) l.initial.out l.at l.whole l.out (l.at + (l.whole - l.left)) l.left
