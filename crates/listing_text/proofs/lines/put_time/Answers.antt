-- Its parts one after the other.
use mathlib.Core.Path.{sym}
use Rattle.ascii.proofs.PutLaws.{puts-append, puts-as, room_as, room-first, room-rest}
use Rattle.listing_text.proofs.LineLaws.{time-parts}
use Rattle.listing_text.proofs.lines.put_time.Goals as goal

pub put_named-p-requires : goal.put_named-p-requires
put_named-p-requires c = let s = c in room-first _ (room_as (time-parts s.args.index s.args.time) s.requires)

pub put_named-q-requires : goal.put_named-q-requires
put_named-q-requires c =
    let s = c in
    room-first _ (room-rest c.put_named-p.ensures (room_as (time-parts s.args.index s.args.time) s.requires))

pub put_text-requires : goal.put_text-requires
put_text-requires c =
    let s = c in
    room-rest c.put_named-q.ensures
    (room-rest c.put_named-p.ensures (room_as (time-parts s.args.index s.args.time) s.requires))

pub returns : goal.returns
returns c =
    let s = c in
    puts-as (sym (time-parts s.args.index s.args.time))
    (puts-append c.put_named-p.ensures
    (puts-append c.put_named-q.ensures c.put_text.ensures))
