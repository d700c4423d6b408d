-- Its parts one after the other.
use mathlib.Core.Path.{sym}
use Rattle.ascii.proofs.PutLaws.{puts-append, puts-as, room_as, room-first, room-rest}
use Rattle.listing_text.proofs.LineLaws.{head-parts}
use Rattle.listing_text.proofs.lines.put_head.Goals as goal

pub put_named-p-requires : goal.put_named-p-requires
put_named-p-requires c = let s = c in room-first _ (room_as (head-parts s.args.signals s.args.times s.args.blocks) s.requires)

pub put_named-q-requires : goal.put_named-q-requires
put_named-q-requires c =
    let s = c in
    room-first _ (room-rest c.put_named-p.ensures (room_as (head-parts s.args.signals s.args.times s.args.blocks) s.requires))

pub put_named-r-requires : goal.put_named-r-requires
put_named-r-requires c =
    let s = c in
    room-first _ (room-rest c.put_named-q.ensures
    (room-rest c.put_named-p.ensures
    (room_as (head-parts s.args.signals s.args.times s.args.blocks) s.requires)))

pub put_text-requires : goal.put_text-requires
put_text-requires c =
    let s = c in
    room-rest c.put_named-r.ensures
    (room-rest c.put_named-q.ensures
    (room-rest c.put_named-p.ensures
    (room_as (head-parts s.args.signals s.args.times s.args.blocks) s.requires)))

pub returns : goal.returns
returns c =
    let s = c in
    puts-as (sym (head-parts s.args.signals s.args.times s.args.blocks))
    (puts-append c.put_named-p.ensures
    (puts-append c.put_named-q.ensures
    (puts-append c.put_named-r.ensures c.put_text.ensures)))
