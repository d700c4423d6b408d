-- The loop's invariant: to settle the signals that are left gives what to settle all of them gives.
-- Assumes nothing.
use Prim.Native.Nat.{◌-◌}
use mathlib.Core.Path.{◌≡◌}
use lib.ListN.{length}
use Rattle.block.specs.Passes.{settle, Settles}
use Rattle.block.proofs.pass.settle_offsets.Given as goal

abbrev pub invariant-loop-g : goal.invariant-loop-g
invariant-loop-g l = (length l.tail ≡ length l.initial.tail) × Settles l.o l.g (l.signals - l.g) l.tail × (settle l.o l.g (l.signals - l.g) l.tail ≡ settle 0 0 l.signals l.initial.tail)
