-- By the room.
use mathlib.Core.Path.{sym, ap, ◌∙◌}
use native.Mathlib.Omega.{arith}
use lib.ListN.{length}
use lib.Seq.{sets}
use Rattle.ascii.proofs.PutLaws.{room_as, TextRead}
use Rattle.listing_text.specs.Listing.{listing_of}
use Rattle.listing.proofs.ImageLaws.{into-short, into-long, listing-read}
use Rattle.listing.proofs.listing_by.Goals as goal
use Rattle.listing.proofs.listing_by.Goals.{After-listing_text-n}

text-made : (t : goal.After-listing_text-n) → TextRead (listing_of t.args.image.now) t.listing_text-n.result t.listing_text-n.new.out
text-made t =
    let s = t in
    listing-read s.args.image.now s.args.text.now t.listing_text-n.result t.listing_text-n.new.out
    (λ j. (t.shared_slice_known-1.given j).fits) s.requires t.listing_text-n.ensures

pub returns-then-out-n : goal.returns-then-out-n
returns-then-out-n c =
    let s = c in
    into-short (listing_of s.args.image.now) s.args.out.now (omega (arith, (text-made (goal.at.returns-then-out-n c).After-listing_text-n).count, c.if-out-n.true))

pub slice_bounds-put_text-end : goal.slice_bounds-put_text-end
slice_bounds-put_text-end c = (text-made (goal.at.slice_bounds-put_text-end c).After-listing_text-n).inside

pub slice_bounds-put_text-end-2 : goal.slice_bounds-put_text-end-2
slice_bounds-put_text-end-2 c = let h = text-made (goal.at.slice_bounds-put_text-end-2 c).After-listing_text-n in h.count ∙ sym (ap length h.is)

pub put_text-requires : goal.put_text-requires
put_text-requires c = let h = text-made (goal.at.put_text-requires c).After-listing_text-n in room_as (sym h.is) (record { inside = omega (arith, h.count, c.if-out-n.false) })

pub returns : goal.returns
returns c =
    let s = c in
    let h = text-made (goal.at.returns c).After-listing_text-n in
    into-long (listing_of s.args.image.now) s.args.out.now c.put_text.new.out
    c.put_text.result (omega (arith, c.put_text.ensures.place, ap length h.is)) (omega (arith, c.put_text.ensures.place, ap length h.is, h.count, c.if-out-n.false))
    (c.put_text.ensures.held ∙ ap (sets s.args.out.now 0) h.is)
