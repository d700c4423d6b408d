-- No part stands between the signal's own and that of signal g.
use Prim.Native.Nat.{ℕ, suc}
use mathlib.Core.Path.{◌≡◌}
use Rattle.walk.specs.Walk.{image_in, part_place, BlockHere}
use Rattle.walk_part.proofs.part_end.Given as goal

abbrev pub invariant-loop-g : goal.invariant-loop-g
invariant-loop-g l = (n : ℕ) → BlockHere n l.at l.image → part_place (image_in l.image) n l.g ≡ part_place (image_in l.image) n (suc l.signal)
