-- The largest class so far with that of the bytes still to come gives that of all: one byte more by `class-turn`.
use Rattle.std.proofs.Common.{◌≡◌, ◌+◌, ◌-◌, ◌*◌, max, length}
use Rattle.value.specs.Class.{class_number}
use Rattle.packed.specs.Packed.{number_of, per_byte}
use Rattle.packed_class.proofs.ByteLaws.{class_among}
use Rattle.packed_class.proofs.class_from.Given as goal

abbrev pub invariant-loop-byte : goal.invariant-loop-byte
invariant-loop-byte l =
    let c = class_number l.states in
    max l.class (class_among c ((length l.bytes - (l.from + l.byte-index)) * per_byte c) (number_of 8 l.bytes))
    ≡ class_among c ((length l.bytes - l.from) * per_byte c) (number_of 8 l.bytes)
