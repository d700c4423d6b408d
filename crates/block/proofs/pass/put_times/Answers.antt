-- The loop's invariant: the times that are left, written from p on, give what all of them give, written from `at` on.
-- Assumes nothing.
use Prim.Native.Nat.{suc, ◌+◌, ◌-◌}
use mathlib.Core.Path.{◌≡◌, refl, ◌∙◌}
use native.Mathlib.Omega.{arith}
use native.Mathlib.Nat.{sub-zero}
use Rattle.block.proofs.PassLaws.{les-none, les-more}
use Rattle.block.proofs.pass.put_times.Goals as goal

pub loop-i-init : goal.loop-i-init
loop-i-init c = (omega arith, refl, simp sub-zero)

pub loop-i-preserved : goal.loop-i-preserved
loop-i-preserved c =
    let d = c.put_u64-p in
    let l = c.loop-i in
    let a = c.args in
    let n1 : a.held - l.i ≡ suc (a.held - (l.i + 1)) = omega arith in (
      omega (arith, d.ensures.0),
      d.auto.buf ∙ l.invariant.1,
      rw (d.ensures.0, d.ensures.1, ← l.invariant.2, n1) (les-more (a.held - (l.i + 1)) l.i l.p a.times.now l.tail (omega arith)),
    )

pub returns : goal.returns
returns c =
    let l = c.loop-i in
    let z : c.args.held - l.i ≡ 0 = omega arith in
    rw (← l.invariant.2, z, les-none) refl
