-- The whole bytes, and where there is one the byte before them of which some bits are symbols'.
use Rattle.std.proofs.Common.{refl, ◌∙◌, arith}
use Rattle.value.specs.Class.{class_number, bits_of}
use Rattle.packed_class.proofs.ByteLaws.{start-part, start-whole}
use Rattle.packed_class.proofs.class_of.Goals as goal

pub returns-then-used-eq0 : goal.returns-then-used-eq0
returns-then-used-eq0 c =
    let a = c.args in
    let k = class_number a.states in
    c.class_from-class.ensures
    ∙ rw (c.from.ensures, c.bits.ensures.0)
    (start-whole a.width k (bits_of k) a.bytes.now refl (omega arith) (rw (c.from.ensures, c.bits.ensures.0) at c.if-used-eq0.true))

pub returns : goal.returns
returns c =
    let a = c.args in
    let k = class_number a.states in
    let h = rw (c.from.ensures, c.bits.ensures.0) at c.if-used-eq0.false in
    rw (c.max.ensures, c.class_low.ensures, c.class_from-class.ensures, c.from.ensures, c.bits.ensures.0)
    (start-part a.width k (bits_of k) a.bytes.now refl (λ j. (c.type_inv.bytes j).fits) (omega (arith, h)))
