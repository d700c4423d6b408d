-- The symbols still to be written, written, give the final buffer: the i leftmost are taken, and `digits-next` takes one more.
use Rattle.std.proofs.Common.{◌≡◌, ◌-◌}
use Rattle.std.proofs.lemmas.List.Edits.{sets}
use Rattle.value.specs.Class.{class_number, bits_of}
use Rattle.packed.specs.Packed.{number_of, digits, unpacked}
use Rattle.packed_symbols.proofs.unpack.Given as goal

abbrev pub invariant-loop-i : goal.invariant-loop-i
invariant-loop-i l =
    sets l.out l.i (digits (bits_of (class_number l.states)) (l.width - l.i) (number_of 8 l.bytes))
    ≡ sets l.initial.out 0 (unpacked l.width (class_number l.states) l.bytes)
