-- By the room and the top bits.
use Prim.Native.Nat.{◌+◌, ◌-◌}
use mathlib.Core.Path.{◌∙◌, sym, refl}
use lib.ListN.{drop}
use native.Mathlib.Omega.{arith}
use Rattle.value.specs.declared.states.States.TheVariants.{Two}
use Rattle.stream.proofs.ReadLaws.{wide_short, wide-other, wide-own, two_size, two-own}
use Rattle.stream_read.proofs.read_two.Goals as goal

pub returns-then-s-at : goal.returns-then-s-at
returns-then-s-at c =
    let p = c in
    let a = p.args in
    let z = c.bytes_required-size in
    wide_short a.s.now a.at a.v a.width p.requires.0 z.result (two_size a.width a.v _ p.requires.2 z.ensures) c.if-s-at.true

pub returns-then-not-top_clear : goal.returns-then-not-top_clear
returns-then-not-top_clear c =
    let p = c in
    let a = p.args in
    let z = c.bytes_required-size in
    let o = c.top_clear in
    wide-other a.s.now a.at a.v a.width p.requires.0 z.result o.result (two_size a.width a.v _ p.requires.2 z.ensures)
    (two-own a.width a.v z.result (a.at + z.result - a.at) o.result (drop a.at a.s.now) p.requires.2 (omega arith) o.ensures)
    (c.if-not-top_clear.true)

pub returns : goal.returns
returns c =
    let p = c in
    let a = p.args in
    let z = c.bytes_required-size in
    let o = c.top_clear in
    c.in_range.ensures
    ∙ wide-own a.s.now a.at a.v a.width p.requires.0 z.result o.result Two (two_size a.width a.v _ p.requires.2 z.ensures)
    (two-own a.width a.v z.result (a.at + z.result - a.at) o.result (drop a.at a.s.now) p.requires.2 (omega arith) o.ensures)
    (c.if-not-top_clear.false) c.if-s-at.false p.requires.1 (sym p.requires.2) (rw p.requires.2 refl)
