-- Of images that the opener accepts.
use mathlib.Core.Path.{◌∙◌}
use Rattle.join.proofs.TestLaws.{join_opened}
use Rattle.join.proofs.join.Goals as goal

pub returns : goal.returns
returns c =
    let i = c.in-Some in
    let j = c.in-Some-open in
    rw (i.ensures, j.ensures) at
    (c.join_in.ensures ∙ join_opened i.first.bytes.now j.second.bytes.now c.args.out.now i.first.opened j.second.opened)
