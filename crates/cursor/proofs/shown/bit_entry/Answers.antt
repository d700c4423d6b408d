use mathlib.Core.Path.{refl}
use Rattle.cursor.proofs.ShownLaws.{bit-shows}
use Rattle.cursor.proofs.shown.bit_entry.Goals as goal

pub returns : goal.returns
returns c =
    let a = c.args in
    bit-shows a.bit.0 a.out.now _ c.from_bit.result c.symbols_entry.result c.from_bit.ensures c.symbols_entry.ensures.0 c.symbols_entry.ensures.1 refl
