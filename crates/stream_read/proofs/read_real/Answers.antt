-- By the room for eight bytes.
use Prim.Native.Nat.{ℕ, ◌+◌}
use mathlib.Core.Path.{◌∙◌, ap}
use Rattle.signal.specs.declared.decode.ChangeValue.TheVariants as value
use Rattle.stream.specs.Answer.{answered}
use Rattle.stream.proofs.ReadLaws.{real-short, real-long}
use Rattle.stream_read.proofs.read_real.Goals as goal

pub returns-then-s-at-lt8 : goal.returns-then-s-at-lt8
returns-then-s-at-lt8 c =
    let a = c.args in
    real-short a.s.now a.at a.v c.if-s-at-lt8.true

pub returns : goal.returns
returns c =
    let p = c in
    let a = p.args in
    c.in_range.ensures
    ∙ ap (λ (b : ℕ). answered a.v (value.Real b) (a.at + 8)) c.get_u64.ensures
    ∙ real-long a.s.now a.at a.v p.requires c.if-s-at-lt8.false
