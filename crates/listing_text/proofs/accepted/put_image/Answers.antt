-- Its parts one after the other.
use mathlib.Core.Path.{sym}
use Rattle.ascii.proofs.PutLaws.{puts-append, puts-as, room_as, room-first, room-rest}
use Rattle.walk.specs.Walk.{image_in}
use Rattle.listing_text.proofs.LineLaws.{image-parts}
use Rattle.listing_text.proofs.accepted.put_image.Goals as goal

pub put_head_of-p-requires : goal.put_head_of-p-requires
put_head_of-p-requires c = let s = c in (s.requires.0, room-first _ (room_as (image-parts (image_in s.args.image.now)) s.requires.3))

pub put_table-q-requires : goal.put_table-q-requires
put_table-q-requires c =
    let s = c in
    (s.requires.0, s.requires.1, room-first _ (room-rest c.put_head_of-p.ensures (room_as (image-parts (image_in s.args.image.now)) s.requires.3)))

pub put_signals-requires : goal.put_signals-requires
put_signals-requires c =
    let s = c in (
      s.requires.0,
      s.requires.2,
      room-rest c.put_table-q.ensures
          (room-rest c.put_head_of-p.ensures
          (room_as (image-parts (image_in s.args.image.now)) s.requires.3)),
    )

pub returns : goal.returns
returns c =
    let s = c in
    puts-as (sym (image-parts (image_in s.args.image.now)))
    (puts-append
    c.put_head_of-p.ensures
    (puts-append c.put_table-q.ensures
    c.put_signals.ensures))
