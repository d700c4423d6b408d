-- Of an image that the opener accepts.
use mathlib.Core.Path.{sym, ◌∙◌}
use Rattle.walk.proofs.OpenLaws.{cursor-opened}
use Rattle.reader.proofs.cursor.Goals as goal

pub returns : goal.returns
returns c =
    let a = c.args in
    let i = c.in_ok-image_of.field-0 in
    rw c.in_ok-image_of.ensures at (c.cursor_in.ensures ∙ sym (cursor-opened i.bytes.now a.signal.0 a.time a.out.now i.opened))
