-- The text ends within the buffer, and what is written is that text.
-- Assumes nothing.
use mathlib.Core.Path.{sym, ap, ◌∙◌}
use lib.ListN.{length}
use Rattle.cursor_text.proofs.TextLaws.{at_read}
use Rattle.waveat.proofs.print_at.Goals as goal

pub slice_bounds-write_all-end : goal.slice_bounds-write_all-end
slice_bounds-write_all-end g c =
    let v = c.at_text-n in
    let h = at_read c.args.image.now c.args.t c.args.out.now v.result v.new.out (λ j. (c.type_inv.image j).fits) c.requires v.ensures in
    h.inside

pub slice_bounds-write_all-end-2 : goal.slice_bounds-write_all-end-2
slice_bounds-write_all-end-2 g c =
    let v = c.at_text-n in
    let h = at_read c.args.image.now c.args.t c.args.out.now v.result v.new.out (λ j. (c.type_inv.image j).fits) c.requires v.ensures in
    h.count ∙ sym (ap length h.is)

pub returns : goal.returns
returns g c =
    let v = c.at_text-n in
    let h = at_read c.args.image.now c.args.t c.args.out.now v.result v.new.out (λ j. (c.type_inv.image j).fits) c.requires v.ensures in
    rw (sym h.is) c.write_all.ensures.bytes
