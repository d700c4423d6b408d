-- The table as it was written.
use mathlib.Core.Path.{sym, ap}
use Rattle.ascii.proofs.PutLaws.{puts-as, room_as}
use Rattle.listing_text.specs.Listing.{time_lines}
use Rattle.listing_text.proofs.TableLaws.{TableRead, table-read}
use Rattle.listing_text.proofs.accepted.put_table.Goals as goal
use Rattle.listing_text.proofs.accepted.put_table.Goals.{After-table_in}

table_here : (t : goal.After-table_in) → TableRead t.args.image.now t.table_length-n.result t.table_in.new.out
table_here t =
    let s = t in
    table-read s.args.image.now t.table_length-n.result _ t.table_in.new.out s.args.times.now
    (λ j. (t.shared_slice_known-1.given j).fits) s.requires.0 s.requires.1 t.table_length-n.ensures t.table_in.ensures

pub slice_bounds-put_times-end : goal.slice_bounds-put_times-end
slice_bounds-put_times-end c = (table_here (goal.at.slice_bounds-put_times-end c).After-table_in).inside

pub slice_bounds-put_times-end-2 : goal.slice_bounds-put_times-end-2
slice_bounds-put_times-end-2 c = (table_here (goal.at.slice_bounds-put_times-end-2 c).After-table_in).size

pub put_times-requires : goal.put_times-requires
put_times-requires c = room_as (ap (time_lines 0) (table_here (goal.at.put_times-requires c).After-table_in).is) c.requires.2

pub returns : goal.returns
returns c = puts-as (sym (ap (time_lines 0) (table_here (goal.at.returns c).After-table_in).is)) c.put_times.ensures
