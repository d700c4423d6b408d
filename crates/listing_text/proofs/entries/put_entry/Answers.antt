-- Its parts one after the other.
use mathlib.Core.Path.{sym}
use Rattle.value.specs.Class.{class_number}
use Rattle.loaded.specs.EntryBytes.{entry_of}
use Rattle.ascii.proofs.PutLaws.{puts-append, puts-as, room_as, room-first, room-rest}
use Rattle.listing_text.proofs.LineLaws.{entry-parts}
use Rattle.listing_text.proofs.entries.put_entry.Goals as goal

pub put_decimal-p-requires : goal.put_decimal-p-requires
put_decimal-p-requires c =
    let s = c in
    room-first _ (room_as (entry-parts s.args.index (entry_of s.args.kind (class_number s.args.class) s.args.bytes.now)) s.requires.2)

pub put_content-q-requires : goal.put_content-q-requires
put_content-q-requires c =
    let s = c in (
      s.requires.0,
      s.requires.1,
      room-first _ (room-rest c.put_decimal-p.ensures
          (room_as (entry-parts s.args.index (entry_of s.args.kind (class_number s.args.class) s.args.bytes.now)) s.requires.2)),
    )

pub put_text-requires : goal.put_text-requires
put_text-requires c =
    let s = c in
    room-rest c.put_content-q.ensures
    (room-rest c.put_decimal-p.ensures
    (room_as (entry-parts s.args.index (entry_of s.args.kind (class_number s.args.class) s.args.bytes.now)) s.requires.2))

pub returns : goal.returns
returns c =
    let s = c in
    puts-as (sym (entry-parts s.args.index (entry_of s.args.kind (class_number s.args.class) s.args.bytes.now)))
    (puts-append c.put_decimal-p.ensures
    (puts-append c.put_content-q.ensures c.put_text.ensures))
