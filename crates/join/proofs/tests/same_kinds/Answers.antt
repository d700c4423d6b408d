-- The loop's invariant: the kinds from i on are the same exactly when all are.
-- Assumes nothing.
use Prim.Native.Nat.{◌<◌}
use mathlib.Core.Path.{refl, sym, ap, ◌∙◌}
use native.Mathlib.Omega.{arith}
use lib.ListN.{length}
use Rattle.image.specs.Head.{kind_number}
use Rattle.walk.specs.Open.{image_of}
use Rattle.join.proofs.TestLaws.{same-all, same_not, same-on, same_end}
use Rattle.join.proofs.tests.same_kinds.Goals as goal

pub loop-i-init : goal.loop-i-init
loop-i-init c = (c.requires, refl)

pub returns-then-kind_number : goal.returns-then-kind_number
returns-then-kind_number c =
    let a = c.args in
    let l = c.loop-i in
    let xs = (image_of a.first).kinds in
    let ys = (image_of a.second).kinds in
    let i : l.i < length xs = omega (arith, c.loop-i-test.true, c.signal_count-i-end.ensures) in
    same_not xs ys l.invariant.0 l.i _ _ i (c.kind_number.ensures ∙ ap kind_number c.kind_at.ensures)
    (c.kind_number-in-loop-i.ensures ∙ ap kind_number c.kind_at-in-loop-i.ensures) c.if-kind_number.true ∙ l.invariant.1 ∙ same-all xs ys l.invariant.0

pub loop-i-preserved : goal.loop-i-preserved
loop-i-preserved c =
    let a = c.args in
    let l = c.loop-i in
    let xs = (image_of a.first).kinds in
    let ys = (image_of a.second).kinds in
    let i : l.i < length xs = omega (arith, c.loop-i-test.true, c.signal_count-i-end.ensures) in (
      l.invariant.0,
      sym (same-on xs ys l.invariant.0 l.i _ _ i (c.kind_number.ensures ∙ ap kind_number c.kind_at.ensures)
          (c.kind_number-in-loop-i.ensures ∙ ap kind_number c.kind_at-in-loop-i.ensures) c.if-kind_number.false) ∙ l.invariant.1,
    )

pub returns : goal.returns
returns c =
    let a = c.args in
    let l = c.loop-i in
    let xs = (image_of a.first).kinds in
    let ys = (image_of a.second).kinds in
    same_end xs ys l.invariant.0 l.i (omega (arith, c.loop-i-test.false, c.signal_count-i-end.ensures)) ∙ l.invariant.1 ∙ same-all xs ys l.invariant.0
