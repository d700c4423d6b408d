-- Whether the table fits is decided before its first time is written.
use Rattle.walk.specs.Open.{image_of}
use Rattle.walk_table.proofs.TableLaws.{table-refused, table-written}
use Rattle.walk_table.proofs.table_in.Goals as goal

pub returns-then-out-n : goal.returns-then-out-n
returns-then-out-n c =
    let a = c.args in
    table-refused (image_of a.image) a.out.now c.table_length-n.result c.table_length-n.ensures c.if-out-n.true

pub returns : goal.returns
returns c =
    let a = c.args in
    let t = c.table_length-n in
    table-written (image_of a.image) a.out.now _ t.result t.ensures c.if-out-n.false c.put_table.ensures
