-- How a time compares with the last one, by the definition's cases.
-- Assumes nothing.
use Rattle.std.specs.declared.cmp.Ordering.{Ordering}
use Rattle.std.specs.declared.cmp.Ordering.TheVariants.{Less, Equal, Greater}
use Rattle.recording.specs.Calls as calls

abbrev pub way_in : Ordering → calls.Way
way_in Greater = calls.above
way_in Equal = calls.equal
way_in Less = calls.below
