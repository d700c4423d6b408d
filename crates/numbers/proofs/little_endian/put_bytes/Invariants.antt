-- The loop's invariant: what is left of the bytes, written from at + i on, gives what all of them give, written from at on.
use Prim.Native.Nat.{◌+◌}
use mathlib.Core.Path.{◌≡◌}
use lib.ListN.{length, drop}
use lib.Seq.{sets}
use Rattle.numbers.proofs.little_endian.put_bytes.Given as goal

abbrev pub invariant-loop-i : goal.invariant-loop-i
invariant-loop-i g l = (length l.buf ≡ length l.initial.buf) × (sets l.buf (l.at + l.i) (drop l.i l.bytes) ≡ sets l.initial.buf l.at l.bytes)
