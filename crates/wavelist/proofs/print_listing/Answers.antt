-- The text ends within the buffer, and what is written is the listing.
use mathlib.Core.Path.{sym, ap, ◌∙◌}
use lib.ListN.{length}
use Rattle.listing.proofs.ImageLaws.{listing-read}
use Rattle.wavelist.proofs.print_listing.Goals as goal

pub slice_bounds-write_all-end : goal.slice_bounds-write_all-end
slice_bounds-write_all-end g c =
    let v = c.listing_text-n in
    let h = listing-read c.args.image.now c.args.out.now v.result v.new.out (λ j. (c.type_inv.image j).fits) c.requires v.ensures in
    h.inside

pub slice_bounds-write_all-end-2 : goal.slice_bounds-write_all-end-2
slice_bounds-write_all-end-2 g c =
    let v = c.listing_text-n in
    let h = listing-read c.args.image.now c.args.out.now v.result v.new.out (λ j. (c.type_inv.image j).fits) c.requires v.ensures in
    h.count ∙ sym (ap length h.is)

pub returns : goal.returns
returns g c =
    let v = c.listing_text-n in
    let h = listing-read c.args.image.now c.args.out.now v.result v.new.out (λ j. (c.type_inv.image j).fits) c.requires v.ensures in
    rw (sym h.is) c.write_all.ensures.bytes
