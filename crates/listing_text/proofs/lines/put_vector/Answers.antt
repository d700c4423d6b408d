-- Its parts one after the other.
use mathlib.Core.Path.{sym}
use native.Mathlib.Omega.{arith}
use Rattle.ascii.proofs.PutLaws.{puts-append, puts-as, room_as, room-first, room-rest}
use Rattle.listing_text.proofs.LineLaws.{event-parts, vector-parts}
use Rattle.listing_text.proofs.lines.put_vector.Goals as goal

pub put_named-requires : goal.put_named-requires
put_named-requires c = let s = c in room_as (event-parts s.args.width s.args.class s.args.changes c.if-width-eq0.true) s.requires

pub returns-then-width-eq0 : goal.returns-then-width-eq0
returns-then-width-eq0 c =
    let s = c in
    puts-as (sym (event-parts s.args.width s.args.class s.args.changes c.if-width-eq0.true)) c.put_named.ensures

pub put_named-p-requires : goal.put_named-p-requires
put_named-p-requires c = let s = c in room-first _ (room_as (vector-parts s.args.width s.args.class s.args.changes (omega arith)) s.requires)

pub put_named-q-requires : goal.put_named-q-requires
put_named-q-requires c =
    let s = c in
    room-first _ (room-rest c.put_named-p.ensures
    (room_as (vector-parts s.args.width s.args.class s.args.changes (omega arith)) s.requires))

pub put_named-requires-2 : goal.put_named-requires-2
put_named-requires-2 c =
    let s = c in
    room-rest c.put_named-q.ensures
    (room-rest c.put_named-p.ensures
    (room_as (vector-parts s.args.width s.args.class s.args.changes (omega arith)) s.requires))

pub returns : goal.returns
returns c =
    let s = c in
    puts-as (sym (vector-parts s.args.width s.args.class s.args.changes (omega arith)))
    (puts-append c.put_named-p.ensures
    (puts-append c.put_named-q.ensures c.put_named-2.ensures))
