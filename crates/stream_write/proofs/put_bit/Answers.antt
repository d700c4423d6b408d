-- One number.
use Rattle.stream.specs.Stream.{change_bytes}
use Rattle.stream_write.proofs.put_bit.Goals as goal

pub put_leb128-requires : goal.put_leb128-requires
unfolding change_bytes
put_leb128-requires c = rw c.change_number.ensures c.requires.1

pub returns : goal.returns
unfolding change_bytes
returns c = let e = c.put_leb128.ensures in rw c.change_number.ensures at e
