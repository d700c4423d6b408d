use mathlib.Core.Path.{◌∙◌}
use native.Mathlib.Omega.{arith}
use Rattle.blocks.proofs.BlockLaws.{front-says, kinds-wrong, kinds-body}
use Rattle.blocks.proofs.TestLaws.{times-fit-small}
use Rattle.blocks.proofs.block_at.Goals as goal

pub returns-in_err-front : goal.returns-in_err-front
returns-in_err-front c =
    let a = c.args in
    c.from_residual.ensures ∙ kinds-wrong _ _ a.end _ _ (λ j. (c.type_inv.s j).fits) c.requires.0 _ c.front_at.ensures c.in_err-front.was

pub body_at-requires : goal.body_at-requires
body_at-requires c =
    let w = front-says _ _ _ _ _ _ _ c.front_at.ensures c.in_ok-front.was in let t = times-fit-small _ _ w.times-fit in let u = t.1 in
    (w.room, w.front, omega arith, t.0, omega arith)

pub returns : goal.returns
returns c =
    kinds-body _ _ _ _ _ (λ j. (c.type_inv.s j).fits) c.requires.0 _ c.front_at.ensures _ _ _
    c.in_ok-front.was c.body_at.ensures
