use Rattle.image.specs.Head.{kind_from}
use Prim.Native.Nat.{◌-◌}
use mathlib.Core.Path.{refl, ap, ◌∙◌}
use native.Mathlib.Omega.{arith}
use Rattle.parts.proofs.SignalLaws.{start_none, turn_is, wrong-all, are-wrong, are-from, one_lower}
use Rattle.parts.proofs.are_parts.Goals as goal

pub loop-i-init : goal.loop-i-init
loop-i-init c = (omega arith, start_none _ _ _ _ _ _ _ _ refl)

pub loop-i-preserved : goal.loop-i-preserved
loop-i-preserved c =
    let l = c.loop-i in let o = c.one_part.ensures in
    let w = one_lower _ _ _ _ _ _ _ o c.in-Some.is in (
      omega arith,
      turn_is _ _ _ _ _ _ _ _ _ _ _ _ (omega arith) (omega arith) l.invariant.1
          (c.kind_from-kind.ensures ∙ ap kind_from c.get_u32.ensures)
          c.get_u32-in-loop-i.ensures o ∙ c.in-Some.is,
    )

pub returns-in_default : goal.returns-in_default
returns-in_default c =
    let l = c.loop-i in
    are-wrong _ _ _ _ _ _ _
    (wrong-all _ _ _ _ _ _ _ (l.i - 1) (omega arith)
    (turn_is _ _ _ _ _ _ _ _ _ _ _ _ (omega arith) (omega arith) l.invariant.1
    (c.kind_from-kind.ensures ∙ ap kind_from c.get_u32.ensures)
    c.get_u32-in-loop-i.ensures c.one_part.ensures ∙ c.in_default.is))

pub returns : goal.returns
returns c = are-from _ _ _ _ _ _ _ _ _ (omega arith) c.loop-i.invariant.1
