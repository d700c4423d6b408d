-- The bits above the symbols are in the first byte (`clear_first`).
use Rattle.value.specs.Class.{class_number}
use Rattle.packed.proofs.PackedLaws.{clear_first}
use Rattle.packed_class.proofs.top_clear.Goals as goal

pub returns : goal.returns
returns c =
    let a = c.args in
    rw (c.from-2.ensures, c.first_byte_limit.ensures, c.from.ensures, c.bits.ensures.0)
    (clear_first a.width (class_number a.states) a.bytes.now (λ j. (c.type_inv.bytes j).fits) c.requires.0 c.requires.1)
