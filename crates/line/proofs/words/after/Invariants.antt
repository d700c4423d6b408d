-- The invariant: what follows the words still to be passed is what follows all of them.
-- Assumes nothing.
use Rattle.std.proofs.Common.{◌≡◌, ◌-◌}
use Rattle.line.specs.Words.{after}
use Rattle.line.proofs.words.after.Given as goal

abbrev pub invariant-loop : goal.invariant-loop
invariant-loop l = after (l.k - l.counter) l.rest ≡ after l.k l.s
