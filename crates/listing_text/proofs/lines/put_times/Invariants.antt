-- The invariant: the lines from number i on, put from p on, give what all of them give.
use lib.ListN.{drop}
use Rattle.ascii.proofs.PutLaws.{Left}
use Rattle.listing_text.specs.Listing.{time_lines}
use Rattle.listing_text.proofs.lines.put_times.Given as goal

abbrev pub invariant-loop-i : goal.invariant-loop-i
invariant-loop-i l = Left (time_lines l.i (drop l.i l.times)) l.p l.out (time_lines 0 l.times) l.at l.initial.out
