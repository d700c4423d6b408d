-- Its parts one after the other.
use mathlib.Core.Path.{sym}
use Rattle.ascii.proofs.PutLaws.{puts-append, puts-as, room_as, room-first, room-rest}
use Rattle.listing_text.proofs.LineLaws.{signal-parts}
use Rattle.listing_text.proofs.lines.put_signal_line.Goals as goal

pub put_named-p-requires : goal.put_named-p-requires
put_named-p-requires c = let s = c in room-first _ (room_as (signal-parts s.args.signal s.args.kind s.args.class s.args.changes) s.requires)

pub put_text-q-requires : goal.put_text-q-requires
put_text-q-requires c =
    let s = c in
    room-first _ (room-rest c.put_named-p.ensures
    (room_as (signal-parts s.args.signal s.args.kind s.args.class s.args.changes) s.requires))

pub put_kind-r-requires : goal.put_kind-r-requires
put_kind-r-requires c =
    let s = c in
    room-first _ (room-rest c.put_text-q.ensures
    (room-rest c.put_named-p.ensures
    (room_as (signal-parts s.args.signal s.args.kind s.args.class s.args.changes) s.requires)))

pub put_text-requires : goal.put_text-requires
put_text-requires c =
    let s = c in
    room-rest c.put_kind-r.ensures
    (room-rest c.put_text-q.ensures
    (room-rest c.put_named-p.ensures
    (room_as (signal-parts s.args.signal s.args.kind s.args.class s.args.changes) s.requires)))

pub returns : goal.returns
returns c =
    let s = c in
    puts-as (sym (signal-parts s.args.signal s.args.kind s.args.class s.args.changes))
    (puts-append c.put_named-p.ensures
    (puts-append c.put_text-q.ensures
    (puts-append c.put_kind-r.ensures c.put_text.ensures)))
