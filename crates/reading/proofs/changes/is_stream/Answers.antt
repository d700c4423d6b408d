use mathlib.Core.Path.{sym, ◌∙◌}
use native.Mathlib.Omega.{arith}
use Rattle.reading.proofs.StreamLaws.{stream-wrong, stream-turn, stream-any, stream_end}
use Rattle.reading.proofs.changes.is_stream.Goals as goal

pub loop-at-smaller : goal.loop-at-smaller
loop-at-smaller c =
    let y = c.type_inv.s in let t = c.loop-at-test.true in
    let d = stream-turn _ _ _ _ _ _ (λ j. (y j).fits) t _ _ _ c.change_at.ensures c.in-Some.is in let p = d.past in
    let q = d.inside in omega arith

pub loop-at-preserved : goal.loop-at-preserved
loop-at-preserved c =
    let y = c.type_inv.s in let t = c.loop-at-test.true in
    let l = c.loop-at in
    let d = stream-turn _ _ _ _ _ _ (λ j. (y j).fits) t _ _ _ c.change_at.ensures c.in-Some.is in let p = d.small in
    (d.inside, omega arith, sym d.rest ∙ l.invariant.2)

pub returns-in_default : goal.returns-in_default
returns-in_default c =
    let y = c.type_inv.s in let t = c.loop-at-test.true in
    let l = c.loop-at in
    stream-wrong _ _ _ _ _ _ (λ j. (y j).fits) t _ c.change_at.ensures c.in_default.is ∙ l.invariant.2
    ∙ sym (stream-any _ _ _ _ (λ j. (y j).fits) (omega arith))

pub returns : goal.returns
returns c = stream_end _ _ _ _ _ _ (λ j. (c.type_inv.s j).fits) c.loop-at-test.false c.loop-at.invariant.2
