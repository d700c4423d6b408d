-- The loop's invariant: to clear the signals that are left gives what to clear all of them gives.
-- Assumes nothing.
use Prim.Native.Nat.{◌-◌}
use mathlib.Core.Path.{◌≡◌, refl, ◌∙◌}
use native.Mathlib.Omega.{arith}
use native.Mathlib.Nat.{sub-zero}
use Rattle.block.proofs.PassLaws.{clear_none, clear-turn}
use Rattle.block.proofs.pass.clear_kept.Goals as goal

pub loop-g-init : goal.loop-g-init
loop-g-init c = (refl, simp sub-zero)

pub loop-g-preserved : goal.loop-g-preserved
loop-g-preserved c =
    let d = c.keep_for in
    let l = c.loop-g in
    (d.auto.tail ∙ l.invariant.0, clear-turn l.g _ l.tail _ (omega arith) d.ensures ∙ l.invariant.1)

pub returns : goal.returns
returns c =
    let l = c.loop-g in
    let z : c.args.signals - l.g ≡ 0 = omega arith in
    rw (← l.invariant.1, z, clear_none) refl
