-- The loop's invariant: what is left of the part, written from at + i on, gives what all of it gives, written from at on.
use Prim.Native.Nat.{◌+◌, ◌-◌}
use mathlib.Core.Path.{◌≡◌}
use lib.ListN.{length, take, drop}
use lib.Seq.{sets}
use Rattle.copy.proofs.put_part.Given as goal

abbrev pub invariant-loop-i : goal.invariant-loop-i
invariant-loop-i l = (length l.out ≡ length l.initial.out)
    × (sets l.out (l.at + l.i) (take (l.count - l.i) (drop (l.from + l.i) l.src)) ≡ sets l.initial.out l.at (take l.count (drop l.from l.src)))
