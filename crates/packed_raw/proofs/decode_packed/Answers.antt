-- The answer of `find_min_states` says whether all are symbols and which class they have; the width picks the answer.
use Rattle.std.proofs.Common.{◌≡◌, ◌-◌, sym, ◌∙◌, arith, rules}
use Rattle.value.specs.Class.{class_number}
use Rattle.packed.specs.Packed.{unpacked}
use Rattle.packed.proofs.PackedLaws.{unpacked-at}
use Rattle.packed.proofs.RawLaws.{checked-none, checked-some, change-single, change-multi}
use Rattle.packed_raw.proofs.decode_packed.Goals as goal

pub returns-in_err-least : goal.returns-in_err-least
returns-in_err-least c = rw (checked-none _ (sym c.find_min_states.ensures ∙ c.in_err-least.was)) c.from_residual.ensures

pub returns-in-1 : goal.returns-in-1
returns-in-1 c =
    let a = c.args in
    let e = checked-some _ _ (sym c.find_min_states.ensures ∙ c.in_ok-least.was) in
    let z : a.width - 1 - 0 ≡ 0 = omega (arith, c.in-1.is) in
    let d = rw z at (unpacked-at a.width (class_number a.states) a.part.now 0 (omega (arith, c.in-1.is))) in
    rw e.0 (sym (change-single a.width (unpacked a.width (class_number a.states) a.part.now) c.get_bit.result c.in-1.is (c.get_bit.ensures ∙ sym d)))

pub returns-in_default : goal.returns-in_default
returns-in_default c =
    let e = checked-some _ _ (sym c.find_min_states.ensures ∙ c.in_ok-least.was) in
    let n = c.in_default in
    rw (e.0, e.1) (sym (change-multi _ _ (search rules) (search rules)))
