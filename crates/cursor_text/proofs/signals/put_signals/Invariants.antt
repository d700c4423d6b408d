-- The invariant: the lines of the signals from number g on, put from p on, give what all of them give.
-- Assumes nothing.
use mathlib.Core.Path.{◌≡◌}
use lib.ListN.{length, drop}
use Rattle.ascii.proofs.PutLaws.{Left}
use Rattle.walk.specs.Walk.{image_in}
use Rattle.cursor_text.specs.At.{at_lines}
use Rattle.cursor_text.proofs.signals.put_signals.Given as goal

abbrev pub invariant-loop-g : goal.invariant-loop-g
invariant-loop-g l =
    (length l.symbols ≡ length l.initial.symbols)
    × Left (at_lines (image_in l.image) l.t l.g (drop l.g (image_in l.image).kinds)) l.p l.out (at_lines (image_in l.image) l.t 0 (image_in l.image).kinds) 0 l.initial.out
