-- The words, and then the number.
use Rattle.ascii.proofs.PutLaws.{puts-append, room-first, room-rest}
use Rattle.listing_text.proofs.lines.put_named.Goals as goal

pub put_text-p-requires : goal.put_text-p-requires
put_text-p-requires c = room-first _ c.requires

pub put_decimal-requires : goal.put_decimal-requires
put_decimal-requires c = room-rest c.put_text-p.ensures c.requires

pub returns : goal.returns
returns c = puts-append c.put_text-p.ensures c.put_decimal.ensures
