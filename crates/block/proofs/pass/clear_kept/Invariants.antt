-- The loop's invariant: to clear the signals that are left gives what to clear all of them gives.
-- Assumes nothing.
use Prim.Native.Nat.{◌-◌}
use mathlib.Core.Path.{◌≡◌}
use lib.ListN.{length}
use Rattle.block.specs.Passes.{clear}
use Rattle.block.proofs.pass.clear_kept.Given as goal

abbrev pub invariant-loop-g : goal.invariant-loop-g
invariant-loop-g l = (length l.tail ≡ length l.initial.tail) × (clear l.g (l.signals - l.g) l.tail ≡ clear 0 l.signals l.initial.tail)
