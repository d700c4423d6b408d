-- The invariant: the records of the kinds still to be stored, stored, give what is asked.
-- Assumes nothing.
use Rattle.std.proofs.Common.{◌≡◌, ◌+◌, List, Some, length, drop}
use lib.Seq.{sets}
use Rattle.line.specs.Words.{words_of, each_of}
use Rattle.line.specs.Line.{kind_of}
use Rattle.line.specs.Command.{kind_list, records_for}
use Rattle.signal.specs.declared.kind.SignalEncoding.{SignalEncoding}
use Rattle.storage.specs.Storage.{records_of}
use Rattle.line.proofs.kinds.put_kinds.Given as goal

abbrev pub invariant-loop-at : goal.invariant-loop-at
invariant-loop-at l =
    (ks : List SignalEncoding) × (length l.records ≡ length l.initial.records) × (each_of kind_of (drop (l.at + 3) (words_of l.line)) ≡ Some ks)
    × (l.at + length ks ≡ length (kind_list l.line))
    × (sets (records_of l.records) l.at (records_for l.probes l.at ks) ≡ sets (records_of l.initial.records) 0 (records_for l.probes 0 (kind_list l.line)))
