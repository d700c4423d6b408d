-- Of an image that the opener accepts.
use mathlib.Core.Path.{sym, ◌∙◌}
use Rattle.walk.proofs.OpenLaws.{table-opened}
use Rattle.reader.proofs.table.Goals as goal

pub returns : goal.returns
returns c =
    let a = c.args in
    let i = c.in_ok-image_of.field-0 in
    rw c.in_ok-image_of.ensures at (c.table_in.ensures ∙ sym (table-opened i.bytes.now a.out.now i.opened))
