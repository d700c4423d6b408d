use Rattle.std.proofs.Common.{◌≡◌, ◌+◌, ◌-◌}
use mathlib.Core.Path.{sym, ◌∙◌}
use native.Mathlib.Omega.{arith}
use Rattle.parts.specs.Parts.{kinds_at}
use Rattle.opener.proofs.BlocksLaws.{blocks-wrong, blocks-turn, blocks_end}
use Rattle.opener.proofs.blocks_fill.Goals as goal

pub loop-preserved : goal.loop-preserved
loop-preserved c =
    let a = c.args in
    let left : a.number - (c.loop.counter + 1) ≡ a.number - c.loop.counter - 1 = omega arith in
    let w =
    blocks-turn a.limit (kinds_at a.signals a.image.now 16) c.loop.end (a.number - c.loop.counter) (omega arith)
    a.image.now c.loop.at (λ j. (c.type_inv.image j).fits) c.loop.invariant.0 _ c.block_at.ensures _ _ c.in-Some.is in
    (w.room, rw left (sym w.rest ∙ c.loop.invariant.1))

pub returns-in_default : goal.returns-in_default
returns-in_default c =
    let a = c.args in
    blocks-wrong a.limit (kinds_at a.signals a.image.now 16) c.loop.end (a.number - c.loop.counter) (omega arith)
    a.image.now c.loop.at (λ j. (c.type_inv.image j).fits) c.loop.invariant.0 _ c.block_at.ensures c.in_default.is
    ∙ c.loop.invariant.1

pub returns : goal.returns
returns c = let l = c.loop in blocks_end _ _ _ _ _ _ (omega arith) l.invariant.0 ∙ l.invariant.1
