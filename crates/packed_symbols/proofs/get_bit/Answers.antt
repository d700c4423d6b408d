-- The symbol at a place is a field of the byte that holds it (`byte-digit`).
use Rattle.std.proofs.Common.{sym, ◌∙◌}
use Rattle.value.specs.Class.{class_number}
use Rattle.packed.proofs.PackedLaws.{byte-digit}
use Rattle.packed_symbols.proofs.get_bit.Goals as goal

pub returns : goal.returns
returns c =
    let a = c.args in
    c.lowest.ensures ∙
    rw (c.from-2.ensures, c.from.ensures, c.bits.ensures.0)
    (sym (byte-digit (class_number a.states) a.place a.bytes.now (λ j. (c.type_inv.bytes j).fits) c.requires))
