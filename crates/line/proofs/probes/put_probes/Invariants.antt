-- The invariant: the probes still to be stored, stored, give what is asked.
-- Assumes nothing.
use Rattle.std.proofs.Common.{ℕ, ◌≡◌, ◌-◌, List, Some, length, drop}
use lib.Seq.{sets}
use Rattle.line.specs.Words.{words_of, each_of}
use Rattle.line.specs.Line.{number32}
use Rattle.line.specs.Command.{probe_list}
use Rattle.line.proofs.probes.put_probes.Given as goal

abbrev pub invariant-loop-k : goal.invariant-loop-k
invariant-loop-k l =
    (ps : List ℕ) × (length l.out ≡ length l.initial.out) × (each_of number32 (drop l.k (words_of l.line)) ≡ Some ps)
    × (sets l.out (l.k - 1) ps ≡ sets l.initial.out 0 (probe_list l.line))
