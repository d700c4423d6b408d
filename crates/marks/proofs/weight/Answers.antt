-- `marks::weight` meets its contract: below 8, no bit of the weight is lost (`weight-fits`).
-- Assumes nothing.
use Rattle.marks.proofs.MarksLaws.{weight-fits}
use Rattle.marks.proofs.weight.Goals as goal

pub returns : goal.returns
returns c = weight-fits c.args.k c.requires
