use Prim.Native.Nat.{◌+◌, ◌-◌}
use mathlib.Core.Path.{refl, sym, ◌∙◌}
use mathlib.Core.Bool.{true, false}
use native.Mathlib.Omega.{arith}
use Rattle.parts.proofs.SignalLaws.{one_none, one-late, one-part}
use Rattle.parts.proofs.one_part.Goals as goal

pub returns-then-stored-eq0 : goal.returns-then-stored-eq0
returns-then-stored-eq0 c = one_none _ _ _ _ _ c.if-stored-eq0.true

pub returns-then-from-stored : goal.returns-then-from-stored
returns-then-from-stored c = one-late _ _ _ _ _ c.if-from-stored.true

pub returns-then-is_part : goal.returns-then-is_part
returns-then-is_part c =
    let a = c.args in
    one-part _ _ _ _ _ a.s.now a.base true (a.base + a.from - (a.base + (a.offset.0 - 1))) (a.base + (a.offset.0 - 1)) refl
    c.if-stored-eq0.false c.if-from-stored.false (sym c.if-is_part.true ∙ c.is_part.ensures) (omega arith) refl

pub returns-else-is_part : goal.returns-else-is_part
returns-else-is_part c =
    let a = c.args in
    one-part _ _ _ _ _ a.s.now a.base false (a.base + a.from - (a.base + (a.offset.0 - 1))) (a.base + (a.offset.0 - 1)) refl
    c.if-stored-eq0.false c.if-from-stored.false (sym c.if-is_part.false ∙ c.is_part.ensures) (omega arith) refl
