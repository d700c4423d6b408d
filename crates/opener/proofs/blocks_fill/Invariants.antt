use Rattle.std.proofs.Common.{◌≡◌, ◌+◌, ◌-◌, ◌*◌, ◌≤◌, length}
use mathlib.Core.Option.{none}
use Rattle.reading.specs.Times.{end_of}
use Rattle.parts.specs.Parts.{kinds_at}
use Rattle.opener.specs.Opening.{blocks_fill}
use Rattle.opener.proofs.blocks_fill.Given as goal

abbrev pub invariant-loop : goal.invariant-loop
invariant-loop l =
    (l.at ≤ length l.image) ×
    (blocks_fill l.limit (kinds_at l.signals l.image 16) (l.number - l.counter) (end_of l.end) l.image l.at ≡ blocks_fill l.limit (kinds_at l.signals l.image 16) l.number none l.image
    (16 + 4 * l.signals))
