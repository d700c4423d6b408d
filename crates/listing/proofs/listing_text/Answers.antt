-- By the length, and by the opener.
use mathlib.Core.Path.{◌≡◌, sym, ◌∙◌}
use Rattle.ascii.specs.Ascii.{ascii}
use Rattle.listing_text.specs.Listing.{listing_of}
use Rattle.walk.proofs.OpenLaws.{parse-closed}
use Rattle.ascii.proofs.PutLaws.{puts-as, room_as}
use Rattle.listing_text.specs.Written.{Taken}
use Rattle.listing.proofs.ImageLaws.{long-refused, other-refused, listing-opened, listing-room}
use Rattle.listing.proofs.listing_text.Goals as goal
use Rattle.listing.proofs.listing_text.Goals.{then-image-gt-MOST_READ-via-then-image-gt-MOST_READ, then-image-gt-MOST_READ-via-else-image-gt-MOST_READ+then-not-open}

pub returns-then-image-gt-MOST_READ : goal.returns-then-image-gt-MOST_READ
returns-then-image-gt-MOST_READ c =
    let b = c.args.image.now in
    let e : listing_of b ≡ ascii "refused 11\n" =
    elim c.then-image-gt-MOST_READ.branch [
      | then-image-gt-MOST_READ-via-then-image-gt-MOST_READ w ↦ long-refused b w.if-image-gt-MOST_READ.true
      | then-image-gt-MOST_READ-via-else-image-gt-MOST_READ+then-not-open w ↦ other-refused b (parse-closed b (sym w.open.ensures ∙ w.if-not-open.true))
    ] in
    puts-as (sym e) c.put_text.ensures

pub image_text-requires : goal.image_text-requires
image_text-requires c =
    let s = c in
    let o : Taken c.args.image.now =
    (sym c.open.ensures ∙ c.if-not-open.false, c.if-image-gt-MOST_READ.false) in (
      o,
      room_as (sym (listing-opened s.args.image.now o))
          (listing-room s.args.image.now s.args.out.now (λ j. (c.shared_slice_known-1.given j).fits) s.requires),
    )

pub returns : goal.returns
returns c =
    let o : Taken c.args.image.now = (
      sym c.open.ensures
          ∙ c.if-not-open.false,
      c.if-image-gt-MOST_READ.false,
    ) in
    puts-as (listing-opened c.args.image.now o) c.image_text.ensures
