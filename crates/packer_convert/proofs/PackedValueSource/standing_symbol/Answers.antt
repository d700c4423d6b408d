-- A symbol of the value is the digit at its place.
use Rattle.std.proofs.Common.{◌+◌, ◌∙◌}
use Rattle.value.specs.Class.{class_number}
use Rattle.packer.proofs.NotationLaws.{packed-digit}
use Rattle.packer_convert.proofs.PackedValueSource.standing_symbol.Goals as goal

pub returns : goal.returns
returns c =
    let a = c.args in
    c.get_bit.ensures ∙ packed-digit a.self.now.width (class_number a._states) a.self.now.class a.self.now.bytes.now c.requires.held (a.after + a.i) c.requires.stands
