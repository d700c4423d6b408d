-- The numbers of the image.
use mathlib.Core.Path.{sym}
use Rattle.ascii.proofs.PutLaws.{puts-as, room_as}
use Rattle.listing_text.proofs.LineLaws.{head-same}
use Rattle.listing_text.proofs.accepted.put_head_of.Goals as goal

pub put_head-requires : goal.put_head-requires
put_head-requires c =
    room_as (head-same c.signal_count-signals.ensures c.table_length-times.ensures c.block_count.ensures)
    c.requires.1

pub returns : goal.returns
returns c =
    puts-as (sym (head-same c.signal_count-signals.ensures c.table_length-times.ensures
    c.block_count.ensures)) c.put_head.ensures
