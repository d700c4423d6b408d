-- By the length, and by the opener.
-- Assumes nothing.
use mathlib.Core.Path.{◌≡◌, sym, ◌∙◌}
use Rattle.ascii.specs.Ascii.{ascii}
use Rattle.cursor_text.specs.At.{at_of}
use Rattle.ascii.proofs.PutLaws.{puts-as, room_as}
use Rattle.walk.proofs.OpenLaws.{parse-closed}
use Rattle.listing_text.specs.Written.{Taken}
use Rattle.cursor_text.proofs.TextLaws.{long-refused, other-refused, at-opened, at_room}
use Rattle.cursor_text.proofs.at_text.Goals as goal
use Rattle.cursor_text.proofs.at_text.Goals.{then-image-gt-MOST_READ-via-then-image-gt-MOST_READ, then-image-gt-MOST_READ-via-else-image-gt-MOST_READ+then-not-open}

pub returns-then-image-gt-MOST_READ : goal.returns-then-image-gt-MOST_READ
returns-then-image-gt-MOST_READ c =
    let b = c.args.image.now in
    let e : at_of b c.args.t ≡ ascii "refused 11\n" =
    elim c.then-image-gt-MOST_READ.branch [
      | then-image-gt-MOST_READ-via-then-image-gt-MOST_READ w ↦ long-refused b c.args.t w.if-image-gt-MOST_READ.true
      | then-image-gt-MOST_READ-via-else-image-gt-MOST_READ+then-not-open w ↦ other-refused b c.args.t (parse-closed b (sym w.open.ensures ∙ w.if-not-open.true))
    ] in
    puts-as (sym e) c.put_text.ensures

pub image_text-requires : goal.image_text-requires
image_text-requires c =
    let s = c in
    let b = s.args.image.now in
    let o : Taken c.args.image.now =
    (sym c.open.ensures ∙ c.if-not-open.false, c.if-image-gt-MOST_READ.false) in
    (o, room_as (sym (at-opened b s.args.t o)) (at_room b s.args.t s.args.out.now (λ j. (c.shared_slice_known-1.given j).fits) s.requires))

pub returns : goal.returns
returns c =
    let a = c.args in
    let o : Taken c.args.image.now = (
      sym c.open.ensures
          ∙ c.if-not-open.false,
      c.if-image-gt-MOST_READ.false,
    ) in
    puts-as (at-opened a.image.now a.t o) c.image_text.ensures
