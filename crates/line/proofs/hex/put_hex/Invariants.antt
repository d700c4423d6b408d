-- The invariant: the bytes still to be written, written, give what is asked.
-- Assumes nothing.
use Rattle.std.proofs.Common.{ℕ, ◌≡◌, ◌+◌, ◌*◌, List, Some, length, drop}
use lib.Seq.{sets}
use Rattle.digits.specs.Numbers.{hex_bytes}
use Rattle.line.specs.Command.{bytes_in}
use Rattle.line.proofs.hex.put_hex.Given as goal

abbrev pub invariant-loop-k : goal.invariant-loop-k
invariant-loop-k l =
    (bs : List ℕ) × (length l.out ≡ length l.initial.out) × (hex_bytes (drop (2 * l.k) l.s) ≡ Some bs) × (l.k + length bs ≡ length (bytes_in l.s))
    × (sets l.out l.k bs ≡ sets l.initial.out 0 (bytes_in l.s))
