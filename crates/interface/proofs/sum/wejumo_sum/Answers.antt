-- The sum of the bytes. What is still to be added, added, gives the sum.
-- Assumes nothing.
use Rattle.std.proofs.Common.{sym, ◌∙◌, arith}
use Rattle.interface.proofs.SumLaws.{sum-turn, sum-end}
use Rattle.interface.proofs.sum.wejumo_sum.Goals as goal

pub loop-b-preserved : goal.loop-b-preserved
loop-b-preserved c =
    let l = c.loop-b in
    rw c.from-sum.ensures (sym (sum-turn l.sum l.b-index _ (omega arith)) ∙ l.invariant)

pub returns : goal.returns
returns c = let l = c.loop-b in sym (sum-end l.sum l.b-index _ (omega arith)) ∙ l.invariant
