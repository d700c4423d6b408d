-- The packed bytes are the last ones.
use Rattle.cursor.proofs.ShownLaws.{wide-shows}
use Rattle.cursor.proofs.shown.wide_entry.Goals as goal

pub returns : goal.returns
returns c =
    let p = c in
    let a = p.args in
    wide-shows a.width a.next c.bytes_required.result a.image.now a.out.now _ a.states
    c.symbols_entry.result p.requires.0 c.bytes_required.ensures c.unpack.ensures
    c.symbols_entry.ensures.0 c.symbols_entry.ensures.1
