-- The block, then N, total and the next table.
-- Assumes nothing.
use mathlib.Core.Path.{refl}
use Rattle.cut.proofs.CutLaws.{head-put}
use Rattle.cut.proofs.close_cut.Goals as goal

pub returns : goal.returns
returns c =
    let t = c.put_u32-2.ensures.1 in
    let n = c.put_u32.ensures.1 in
    let k = c.close_tail.ensures in
    (refl, rw (← k) (head-put _ _ _ _ _ n t))
