-- A first block starts anywhere, a later one at or after the end before it.
-- Assumes nothing.
use Rattle.reading.proofs.TimesLaws.{starts_first, starts_with}
use Rattle.reading.proofs.times.starts.Goals as goal

pub returns-in-None : goal.returns-in-None
returns-in-None c = starts_first _ _ _ c.in-None.is

pub returns-in-Some : goal.returns-in-Some
returns-in-Some c = starts_with _ _ _ _ _ c.in-Some.is c.get_u64.ensures
