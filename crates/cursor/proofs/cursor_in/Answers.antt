-- 4 by the kind, 9 by the width, then by the change that the walk found.
use mathlib.Core.Path.{subst}
use native.Mathlib.Omega.{arith}
use Rattle.std.specs.Prelude.{Option}
use Rattle.entry.specs.declared.read.PlacedChange.{PlacedChange}
use Rattle.entry_same.specs.Kept.{KeptReads}
use Rattle.cursor.proofs.CursorLaws.{cursor-unknown, cursor-short, cursor-nothing, cursor-counted, cursor-found}
use Rattle.cursor.proofs.cursor_in.Goals as goal

pub returns-then-is_absent : goal.returns-then-is_absent
returns-then-is_absent c =
    let a = c.args in
    cursor-unknown a.image.bytes.now a.signal a.t a.out.now c.kind_at-kind.result _ c.kind_at-kind.ensures c.is_absent.ensures c.if-is_absent.true

pub returns-then-out-width : goal.returns-then-out-width
returns-then-out-width c =
    let a = c.args in
    cursor-short a.image.bytes.now a.signal a.t a.out.now c.kind_at-kind.result _ c.kind_at-kind.ensures
    c.is_absent.ensures _ c.if-is_absent.false c.width.ensures c.if-out-width.true

pub overflow_sub-result : goal.overflow_sub-result
overflow_sub-result c =
    let p = c in
    let a = p.args in
    cursor-counted a.image.bytes.now a.signal a.t a.out.now c.kind_at-kind.result _
    c.kind_at-kind.ensures c.is_absent.ensures
    a.image.fits a.image.opened
    c.point_at-held.result _ c.if-is_absent.false
    c.width.ensures c.if-out-width.false
    c.point_at-held.ensures.1 _ c.in-Some.is

pub value_at-requires : goal.value_at-requires
value_at-requires c =
    let a = c.args in (
      subst (λ (l : Option PlacedChange). KeptReads c.kind_at-kind.result a.image.bytes.now l)
          c.in-Some.is c.point_at-held.ensures.0,
      omega (arith, c.width.ensures, c.if-out-width.false),
    )

pub returns-in-None : goal.returns-in-None
returns-in-None c =
    let p = c in
    let a = p.args in
    cursor-nothing a.image.bytes.now a.signal a.t a.out.now c.kind_at-kind.result _
    c.kind_at-kind.ensures c.is_absent.ensures
    a.image.fits a.image.opened c.point_at-held.result _
    c.if-is_absent.false c.width.ensures c.if-out-width.false
    c.point_at-held.ensures.1 c.in-None.is

pub returns-in-Some : goal.returns-in-Some
returns-in-Some c =
    let p = c in
    let a = p.args in
    cursor-found a.image.bytes.now a.signal a.t a.out.now
    c.kind_at-kind.result _
    c.kind_at-kind.ensures
    c.is_absent.ensures
    a.image.fits a.image.opened
    c.point_at-held.result _ c.if-is_absent.false
    c.width.ensures c.if-out-width.false
    c.point_at-held.ensures.1
    _ c.in-Some.is c.value_at.result _ c.value_at.ensures
