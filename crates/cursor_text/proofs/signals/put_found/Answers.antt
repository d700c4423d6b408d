-- Its parts one after the other.
-- Assumes nothing.
use mathlib.Core.Path.{sym}
use Rattle.ascii.proofs.PutLaws.{puts-append, puts-as, room_as, room-first, room-rest}
use Rattle.loaded.specs.Reader.{entry_reply}
use Rattle.listing_text.specs.Written.{shown_words}
use Rattle.cursor_text.proofs.LineLaws.{found-parts}
use Rattle.cursor_text.proofs.signals.put_found.Goals as goal

pub put_named-p-requires : goal.put_named-p-requires
put_named-p-requires c =
    let s = c in
    room-first _ (room_as (found-parts s.args.shown.number s.args.shown.time (shown_words (entry_reply s.args.shown.entry) s.args.symbols.now)) s.requires.1)

pub put_named-q-requires : goal.put_named-q-requires
put_named-q-requires c =
    let s = c in
    room-first _ (room-rest c.put_named-p.ensures
    (room_as (found-parts s.args.shown.number s.args.shown.time (shown_words (entry_reply s.args.shown.entry) s.args.symbols.now)) s.requires.1))

pub put_shown-requires : goal.put_shown-requires
put_shown-requires c =
    let s = c in
    let all = room_as (found-parts s.args.shown.number s.args.shown.time (shown_words (entry_reply s.args.shown.entry) s.args.symbols.now)) s.requires.1 in
    (s.requires.0, room-rest c.put_named-q.ensures (room-rest c.put_named-p.ensures all))

pub returns : goal.returns
returns c =
    let s = c in
    puts-as (sym (found-parts s.args.shown.number s.args.shown.time (shown_words (entry_reply s.args.shown.entry) s.args.symbols.now)))
    (puts-append c.put_named-p.ensures
    (puts-append c.put_named-q.ensures c.put_shown.ensures))
