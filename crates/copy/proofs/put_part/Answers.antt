-- The loop's invariant: what is left of the part, written from at + i on, gives what all of it gives, written from at on.
use Prim.Native.Nat.{suc, ◌+◌, ◌-◌}
use mathlib.Core.Path.{◌≡◌, refl}
use native.Mathlib.Nat.{add-zero, sub-zero}
use native.Mathlib.Omega.{arith}
use lib.ListN.{length-set}
use Rattle.lists.proofs.SetsLaws.{part-more}
use Rattle.copy.proofs.put_part.Goals as goal

pub loop-i-preserved : goal.loop-i-preserved
loop-i-preserved c =
    let l = c.loop-i in
    let a = c.args in
    let i1 : a.at + (l.i + 1) ≡ suc (a.at + l.i) = omega arith in
    let f1 : a.from + (l.i + 1) ≡ suc (a.from + l.i) = omega arith in
    let n1 : a.count - l.i ≡ suc (a.count - (l.i + 1)) = omega arith in
    let e = part-more (a.count - (l.i + 1)) (a.from + l.i) a.src.now (omega arith) in
    (simp length-set l.invariant.0, rw (i1, f1, ← l.invariant.1, n1, e) refl)
