use Rattle.std.proofs.Common.{◌∙◌, sym, suc, add-one}
use borrow.Author.Rules.{part_to_end}
use Rattle.line.proofs.WordLaws.{space-there, space_none}
use Rattle.line.proofs.words.past_word.Goals as goal

pub returns-in-Some : goal.returns-in-Some
returns-in-Some c = let h = space-there c.args.s.now c.in-Some.at (sym c.space.ensures ∙ c.in-Some.is) in rw (add-one c.in-Some.at) (part_to_end c.args.s.now (suc c.in-Some.at) ∙ h.1)

pub returns-in-None : goal.returns-in-None
returns-in-None c = (space_none c.args.s.now (sym c.space.ensures ∙ c.in-None.is)).1
