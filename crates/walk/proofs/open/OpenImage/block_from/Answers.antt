-- The number that was reached is that of a block which begins there.
use native.Mathlib.Omega.{arith}
use Rattle.walk.proofs.BlockLaws.{same_block}
use Rattle.walk.proofs.open.OpenImage.block_from.Goals as goal

pub returns-clause-number : goal.returns-clause-number
returns-clause-number c n h =
    let a = c.args in
    let l = c.loop-at in
    same_block l.number n a.place a.self.bytes.now (record { exists = omega arith; place = omega arith }) h
