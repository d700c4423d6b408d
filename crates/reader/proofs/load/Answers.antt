-- Of an image that the opener accepts.
use mathlib.Core.Path.{sym, ◌∙◌}
use Rattle.walk.proofs.OpenLaws.{load-opened}
use Rattle.reader.proofs.load.Goals as goal

pub returns : goal.returns
returns c =
    let a = c.args in
    let i = c.in_ok-image_of.field-0 in
    rw c.in_ok-image_of.ensures at (c.load_in.ensures ∙ sym (load-opened i.bytes.now a.signal.0 a.index.now a.bytes.now i.opened))
