use Rattle.std.proofs.Common.{◌∙◌}
use Rattle.line.proofs.WordLaws.{same_as}
use Rattle.line.proofs.words.spells.Goals as goal

pub returns : goal.returns
returns c = c.eq.ensures ∙ same_as c.args.w.now c.args.name.now
