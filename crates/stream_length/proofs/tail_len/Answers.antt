-- By the shape of the value.
use mathlib.Core.Path.{◌∙◌, refl}
use native.Mathlib.Omega.{arith}
use Rattle.stream.proofs.WriteLaws.{packed-small}
use Rattle.stream_length.proofs.tail_len.Goals as goal

pub returns-in-MultiBit : goal.returns-in-MultiBit
returns-in-MultiBit c =
    (c.bytes_required.ensures ∙ rw c.in-MultiBit.is refl, rw c.bytes_required.ensures (packed-small c.args.width c.in-MultiBit.states (omega arith)))
