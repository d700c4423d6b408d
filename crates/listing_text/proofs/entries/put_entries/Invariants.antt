-- The invariant: the lines of the entries from number i on, whose bytes begin at `from`, put from p on, give what all of them give.
use Prim.Native.Nat.{◌≤◌}
use mathlib.Core.Path.{◌≡◌}
use mathlib.Core.Bool.{true}
use lib.ListN.{length, drop}
use Rattle.ascii.proofs.PutLaws.{Left}
use Rattle.value.specs.Class.{class_number}
use Rattle.listing_text.specs.Listing.{entry_lines}
use Rattle.listing_text.specs.Written.{entries_read, entries_there}
use Rattle.listing_text.proofs.entries.put_entries.Given as goal

abbrev pub invariant-loop-number : goal.invariant-loop-number
invariant-loop-number l =
    (l.from ≤ length l.bytes) × (length l.symbols ≡ length l.initial.symbols) × (entries_there l.kind (class_number l.class) (drop l.number-index l.index) (drop l.from l.bytes) ≡ true)
    × Left (entry_lines (entries_read l.kind (class_number l.class) (drop l.number-index l.index) (drop l.from l.bytes))) l.p l.out
    (entry_lines (entries_read l.kind (class_number l.class) l.index l.bytes)) l.at l.initial.out
