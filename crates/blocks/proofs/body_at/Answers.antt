use Prim.Native.Nat.{◌+◌, ◌-◌}
use mathlib.Core.Path.{sym, ◌∙◌}
use mathlib.Core.Bool.{true, false}
use native.Mathlib.Omega.{arith}
use Rattle.blocks.proofs.TestLaws.{body-wrong, body-parts}
use Rattle.blocks.proofs.body_at.Goals as goal

pub returns-then-are_parts : goal.returns-then-are_parts
returns-then-are_parts c =
    let d = c.data_start-front in
    let a = c.args in
    body-parts a.signals a.size a.times a.s.now a.at a.end _ (rw c.times_place.ensures at c.times_at.ensures)
    _ (a.at + d.result) (a.size - d.result) true c.in_ok-last.was
    (omega (arith, d.ensures)) (omega (arith, d.ensures)) (sym c.if-are_parts.true ∙ c.are_parts.ensures)

pub returns-else-are_parts : goal.returns-else-are_parts
returns-else-are_parts c =
    let d = c.data_start-front in
    let a = c.args in
    body-parts a.signals a.size a.times a.s.now a.at a.end _ (rw c.times_place.ensures at c.times_at.ensures)
    _ (a.at + d.result) (a.size - d.result) false c.in_ok-last.was
    (omega (arith, d.ensures)) (omega (arith, d.ensures)) (sym c.if-are_parts.false ∙ c.are_parts.ensures)

pub returns-in_err-last : goal.returns-in_err-last
returns-in_err-last c = c.from_residual.ensures ∙ body-wrong _ _ _ _ _ _ _ (rw c.times_place.ensures at c.times_at.ensures) c.in_err-last.was
