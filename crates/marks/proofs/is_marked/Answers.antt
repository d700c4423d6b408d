-- `marks::is_marked` meets its contract: it computes what `mark_at` says.
-- Assumes nothing.
use Prim.Native.Nat.{◌%◌}
use mathlib.Core.Path.{refl}
use lib.Pow.{pow_pos}
use Rattle.marks.specs.Marks.{mark_at}
use Rattle.marks.proofs.is_marked.Goals as goal

pub nonzero_div-result : goal.nonzero_div-result
nonzero_div-result c = rw c.weight.ensures (pow_pos (c.args.i % 8))

pub returns : goal.returns
unfolding mark_at
returns c = rw c.weight.ensures refl
