-- `numbers::leb128::put_leb128` meets its contract. The loop's invariant: the form of x, written from i on, gives what the form of v gives,
-- written from at on, and ends where it ends. The measure is x.
-- Assumes nothing.
use Prim.Native.Nat.{◌+◌, ◌≤◌}
use mathlib.Core.Path.{◌≡◌}
use lib.ListN.{length}
use lib.Seq.{sets}
use Rattle.numbers.specs.Leb128.{leb_of}
use Rattle.numbers.proofs.leb128.put_leb128.Given as goal

abbrev pub invariant-loop-x : goal.invariant-loop-x
invariant-loop-x l = (l.x ≤ l.v) × (l.i + length (leb_of l.x) ≡ l.at + length (leb_of l.v)) × (length l.buf ≡ length l.initial.buf)
    × (sets l.buf l.i (leb_of l.x) ≡ sets l.initial.buf l.at (leb_of l.v))

abbrev pub decreases-loop-x : goal.decreases-loop-x
decreases-loop-x l = l.x
