-- Three parts written in a row.
-- Assumes nothing.
use mathlib.Core.Path.{refl}
use native.Mathlib.Omega.{arith}
use lib.ListN.{take}
use lib.Seq.{length-take-le}
use Rattle.numbers.specs.LittleEndian.{le}
use Rattle.numbers.proofs.LittleEndianLaws.{length-le}
use Rattle.join.proofs.BytesLaws.{three-sets}
use Rattle.join.proofs.put.put_numbers.Goals as goal

pub returns : goal.returns
returns c =
    let total = c in
    let blocks = total in
    let front = blocks in
    let s = front in
    let a = s.args in
    let e1 = front.put_part-p.ensures in
    let e2 = blocks.put_u32-q.ensures in
    let e3 = total.put_u32.ensures in
    let l = length-take-le 8 a.first.now (omega (arith, s.requires.0)) in (
      omega (arith, e1.0, e2.0, e3.0),
      rw (e3.1, e2.1, e1.1)
          (three-sets (take 8 a.first.now) (le 4 a.blocks) (le 4 a.total) a.out.now 0 _ _ refl (omega (arith, e1.0, l)) (omega (arith, e2.0, length-le 4 a.blocks))),
    )
