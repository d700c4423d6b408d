-- The class is that of the symbol.
use mathlib.Core.Path.{refl}
use native.Mathlib.Omega.{arith}
use Rattle.entry_put.proofs.PutLaws.{bit-class}
use Rattle.entry_put.proofs.put_bit.Goals as goal

pub overflow_mul-out : goal.overflow_mul-out
overflow_mul-out c =
    let q = bit-class c.args.bit.0 _ _ c.from_bit.ensures c.number.ensures in
    omega (arith, q.1)

pub overflow_add-out : goal.overflow_add-out
overflow_add-out c =
    let q = bit-class c.args.bit.0 _ _ c.from_bit.ensures c.number.ensures in
    omega (arith, q.1, c.requires.0)

pub returns : goal.returns
returns c =
    let q = bit-class c.args.bit.0 _ _ c.from_bit.ensures c.number.ensures in
    (refl, rw q.0 refl)
