-- The kinds from i on are the same exactly when all are.
use mathlib.Core.Path.{◌≡◌}
use lib.ListN.{length}
use Rattle.walk.specs.Open.{image_of}
use Rattle.join.proofs.TestLaws.{sameFrom}
use Rattle.join.proofs.tests.same_kinds.Given as goal

abbrev pub invariant-loop-i : goal.invariant-loop-i
invariant-loop-i l =
    (e : length (image_of l.second).kinds ≡ length (image_of l.first).kinds) ×
    (sameFrom (image_of l.first).kinds (image_of l.second).kinds e l.i ≡ sameFrom (image_of l.first).kinds (image_of l.second).kinds e 0)
