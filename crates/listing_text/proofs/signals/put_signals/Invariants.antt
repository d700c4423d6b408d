-- The invariant: the lines of the signals from number g on, put from p on, give what all of them give.
use mathlib.Core.Path.{◌≡◌}
use lib.ListN.{length, drop}
use Rattle.ascii.proofs.PutLaws.{Left}
use Rattle.walk.specs.Walk.{image_in}
use Rattle.listing_text.specs.Listing.{signals_from}
use Rattle.listing_text.proofs.signals.put_signals.Given as goal

abbrev pub invariant-loop-g : goal.invariant-loop-g
invariant-loop-g l =
    (length l.index ≡ length l.initial.index) × (length l.bytes ≡ length l.initial.bytes) × (length l.symbols ≡ length l.initial.symbols)
    × Left (signals_from (image_in l.image) l.g (drop l.g (image_in l.image).kinds)) l.p l.out (signals_from (image_in l.image) 0 (image_in l.image).kinds) l.at l.initial.out
