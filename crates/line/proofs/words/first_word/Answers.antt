use Rattle.std.proofs.Common.{◌∙◌, sym}
use Rattle.line.proofs.WordLaws.{space-there, space_none}
use Rattle.line.proofs.words.first_word.Goals as goal

pub returns-in-Some : goal.returns-in-Some
returns-in-Some c = let h = space-there c.args.s.now c.in-Some.at (sym c.space.ensures ∙ c.in-Some.is) in h.0

pub returns-in-None : goal.returns-in-None
returns-in-None c = (space_none c.args.s.now (sym c.space.ensures ∙ c.in-None.is)).0
