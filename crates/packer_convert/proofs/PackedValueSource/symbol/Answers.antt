-- A place counted from the left is one counted from the right.
use Rattle.std.proofs.Common.{sym, ◌∙◌}
use Rattle.value.specs.Class.{class_number}
use Rattle.packed.proofs.PackedLaws.{unpacked-at}
use Rattle.packer_convert.proofs.PackedValueSource.symbol.Goals as goal

pub returns : goal.returns
returns c =
    let v = c.args.self.now in
    c.get_bit.ensures ∙ sym (unpacked-at v.width (class_number v.class) v.bytes.now c.args.place c.requires.1)
