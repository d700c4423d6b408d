-- The lengths first, then the join.
use mathlib.Core.Path.{◌∙◌}
use Rattle.wavejoin.proofs.FilesLaws.{first-long, second-long, neither-long}
use Rattle.wavejoin.proofs.join_files.Goals as goal

pub returns-then-first-gt1048576 : goal.returns-then-first-gt1048576
returns-then-first-gt1048576 c = let a = c.args in first-long a.first.now a.second.now a.out.now c.if-first-gt1048576.true

pub returns-then-second-gt1048576 : goal.returns-then-second-gt1048576
returns-then-second-gt1048576 c = let a = c.args in second-long a.first.now a.second.now a.out.now c.if-first-gt1048576.false c.if-second-gt1048576.true

pub returns : goal.returns
returns c =
    let s = c in
    let a = s.args in
    c.join.ensures ∙ neither-long a.first.now a.second.now a.out.now s.if-first-gt1048576.false s.if-second-gt1048576.false
