-- By what the measure says.
-- Assumes nothing.
use mathlib.Core.Path.{sym, ◌∙◌}
use native.Mathlib.Omega.{arith}
use Rattle.cut.proofs.CutLaws.{size-damaged, size-full, size_fits}
use Rattle.cut.proofs.cut_size.Goals as goal
use Rattle.cut.proofs.cut_size.Goals.{then-free-fixed-via-then-free-fixed, then-free-fixed-via-else-free-fixed+then-free-fixed-2}

pub returns-in_default : goal.returns-in_default
returns-in_default c =
    let a = c.args in
    size-damaged a.state a.work.now a.image c.requires.0 (sym c.in_default.is ∙ c.measure.ensures)

pub returns-then-free-fixed : goal.returns-then-free-fixed
returns-then-free-fixed c =
    let a = c.args in
    let q = sym c.in-Some.is ∙ c.measure.ensures in
    elim c.then-free-fixed.branch [
      | then-free-fixed-via-then-free-fixed w ↦ size-full a.state a.work.now a.image c.requires.0 _ q (omega arith)
      | then-free-fixed-via-else-free-fixed+then-free-fixed-2 w ↦ size-full a.state a.work.now a.image c.requires.0 _ q (omega arith)
    ]

pub returns : goal.returns
returns c =
    let a = c.args in
    let q = sym c.in-Some.is ∙ c.measure.ensures in
    rw c.data_start-fixed.ensures (size_fits a.state a.work.now a.image c.requires.0 _ q (omega arith))
