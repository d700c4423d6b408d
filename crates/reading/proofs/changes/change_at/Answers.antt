use Prim.Native.Nat.{◌≤◌}
use mathlib.Core.Path.{◌∙◌}
use native.Mathlib.Omega.{arith}
use Rattle.reading.proofs.EntryLaws.{entry-bad, delta-small, entry-late, entry-class, entry-fits}
use Rattle.reading.proofs.changes.change_at.Goals as goal

pub overflow_add-index : goal.overflow_add-index
overflow_add-index c =
    let h : _ ≤ 65534 = let a = c.args in let y = c.type_inv.s in
    delta-small a.kind a.times a.top a.previous a.s.now a.at (λ j. (y j).fits) _ _ _ _ c.read_change.ensures
    c.in_ok-change.was in omega arith

pub returns-then-times-index : goal.returns-then-times-index
returns-then-times-index c =
    let a = c.args in let y = c.type_inv.s in
    entry-late a.kind a.times a.top a.previous a.s.now a.at (λ j. (y j).fits) _ _ _ _ c.read_change.ensures
    c.in_ok-change.was c.if-times-index.true

pub returns-then-top-class_of : goal.returns-then-top-class_of
returns-then-top-class_of c =
    let a = c.args in
    let y = c.type_inv.s in
    entry-class a.kind a.times a.top a.previous a.s.now a.at (λ j. (y j).fits) _ _ _ _ c.read_change.ensures
    c.in_ok-change.was _ c.class_of.ensures c.if-times-index.false c.if-top-class_of.true

pub returns : goal.returns
returns c =
    let a = c.args in
    let y = c.type_inv.s in
    entry-fits a.kind a.times a.top a.previous a.s.now a.at (λ j. (y j).fits) _ _ _ _ c.read_change.ensures
    c.in_ok-change.was _ c.class_of.ensures c.if-times-index.false c.if-top-class_of.false

pub returns-in_err-change : goal.returns-in_err-change
returns-in_err-change c =
    let a = c.args in let y = c.type_inv.s in
    c.from_residual.ensures ∙ entry-bad a.kind a.times a.top a.previous a.s.now a.at (λ j. (y j).fits) _ c.read_change.ensures c.in_err-change.was
