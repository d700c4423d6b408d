-- The working bits are the symbols taken, from the left.
use Rattle.value.specs.Class.{class_number, bits_of}
use Rattle.packer.specs.Given.{number_given}
use Rattle.packer.proofs.PackLaws.{Taken}
use Rattle.packer_pack.proofs.packing.Packing.standing_symbols.Given as goal

abbrev pub invariant-loop-i : goal.invariant-loop-i
invariant-loop-i g l =
    let k = class_number l.states in
    Taken (bits_of k) l.after l.count (number_given (g.S.Source.given l.self.source) k) l.i l.working
