-- The invariant: the letters from number i on, put from p on, give what all of them give.
use Prim.Native.Nat.{◌+◌}
use mathlib.Core.List.{map}
use lib.ListN.{drop}
use Rattle.ascii.proofs.PutLaws.{Left}
use Rattle.listing_text.specs.Listing.{letter_of}
use Rattle.listing_text.proofs.entries.put_letters.Given as goal

abbrev pub invariant-loop-i : goal.invariant-loop-i
invariant-loop-i l = Left (map letter_of (drop l.i l.symbols)) (l.at + l.i) l.out (map letter_of l.symbols) l.at l.initial.out
