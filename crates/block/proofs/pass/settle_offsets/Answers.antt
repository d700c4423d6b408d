-- The loop's invariant: to settle the signals that are left gives what to settle all of them gives.
-- Assumes nothing.
use Prim.Native.Nat.{◌-◌, ◌<◌}
use mathlib.Core.Path.{◌≡◌, refl, ◌∙◌}
use native.Mathlib.Omega.{arith}
use native.Mathlib.Nat.{sub-zero}
use Rattle.block.proofs.PassLaws.{settle-none, settle-turn, settles-here, settles-turn}
use Rattle.block.proofs.pass.settle_offsets.Goals as goal

pub loop-g-init : goal.loop-g-init
loop-g-init c = (refl, rw sub-zero c.requires.1, simp sub-zero)

pub settle_offset-o-requires : goal.settle_offset-o-requires
settle_offset-o-requires c =
    let l = c.loop-g in
    (omega arith, settles-here l.o l.g _ l.tail (omega arith) l.invariant.1)

pub loop-g-preserved : goal.loop-g-preserved
loop-g-preserved c =
    let d = c.settle_offset-o in
    let l = c.loop-g in
    let n = c.args.signals in
    let h : l.g < n = omega arith in (
      d.auto.tail ∙ l.invariant.0,
      settles-turn l.o l.g n l.tail _ _ h d.ensures.0 d.ensures.1 l.invariant.1,
      settle-turn l.o l.g n l.tail _ _ h d.ensures.0 d.ensures.1 ∙ l.invariant.2,
    )

pub returns : goal.returns
returns c =
    let l = c.loop-g in
    let z : c.args.signals - l.g ≡ 0 = omega arith in
    rw (← l.invariant.2, z, settle-none) refl
