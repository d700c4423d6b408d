-- Refusals by their numbers, and what a test that passes or refuses says as a number.
-- Assumes nothing.
use Rattle.std.specs.Prelude.{ℕ, Result, Ok, Err}
use Rattle.refusal.specs.declared.Refusal.{Refusal}
use Rattle.refusal.specs.declared.Refusal.TheVariants.{BadStart, Closed, BeforeTime, NoSignal, WrongKind, BadValue, WorkFull, ImageFull, OutputShort, Altered, NoImage, Unlike, NoBlock}
use Rattle.refusal.specs.declared.Refusal.TheVariants.{Overlap, Foreign}

abbrev pub refusal_number : Refusal → ℕ
refusal_number BadStart = 1
refusal_number Closed = 2
refusal_number BeforeTime = 3
refusal_number NoSignal = 4
refusal_number WrongKind = 5
refusal_number BadValue = 6
refusal_number WorkFull = 7
refusal_number ImageFull = 8
refusal_number OutputShort = 9
refusal_number Altered = 10
refusal_number NoImage = 11
refusal_number Unlike = 14
refusal_number NoBlock = 15
refusal_number Overlap = 16
refusal_number Foreign = 18

-- the number of what was refused; 0 where nothing was
abbrev pub refused_number : {T : Type 0} → Result T Refusal → ℕ
refused_number (Ok t) = 0
refused_number (Err r) = refusal_number r
