-- Four numbers in a row.
-- Assumes nothing.
use mathlib.Core.Path.{refl}
use Rattle.lists.proofs.SetsLaws.{sets-append}
use Rattle.numbers.proofs.LittleEndianLaws.{length-le}
use Rattle.head.proofs.put_numbers.Goals as goal

pub returns : goal.returns
returns c =
    let p4 = c in
    let p3 = p4 in
    let p2 = p3 in
    let p1 = p2 in
    simp (sets-append, length-le) (rw (p4.put_u32-4.ensures.1, p4.head_size.ensures, p3.put_u32-3.ensures.1, p2.put_u32-2.ensures.1, p1.put_u32.ensures.1) refl)
