-- By the class bits, the room and the value's own class.
use Prim.Native.Nat.{◌+◌, ◌-◌}
use mathlib.Core.Path.{◌∙◌, sym}
use lib.ListN.{drop}
use native.Mathlib.Omega.{arith}
use Rattle.stream.proofs.ReadLaws.{wide-three, wide_short, wide-other, wide-own, class-is, size_is, own_is}
use Rattle.stream_read.proofs.read_wide.Goals as goal

pub returns-then-v-eq0 : goal.returns-then-v-eq0
returns-then-v-eq0 c = c.read_two.ensures

pub returns-then-v-eq3 : goal.returns-then-v-eq3
returns-then-v-eq3 c =
    let p = c in
    let a = p.args in
    wide-three a.s.now a.at a.v a.width p.requires.0 c.if-v-eq3.true

pub returns-then-s-at : goal.returns-then-s-at
returns-then-s-at c =
    let p = c in
    let a = p.args in
    let z = c.bytes_required-size in
    let x = c.from_number-states in
    wide_short a.s.now a.at a.v a.width p.requires.0 z.result (size_is a.width a.v _ _ c.if-v-eq3.false x.ensures z.ensures) c.if-s-at.true

pub returns-then-not-own_class : goal.returns-then-not-own_class
returns-then-not-own_class c =
    let p = c in
    let a = p.args in
    let z = c.bytes_required-size in
    let x = c.from_number-states in
    let h = c.if-v-eq3.false in
    let o = c.own_class in
    wide-other a.s.now a.at a.v a.width p.requires.0 z.result o.result (size_is a.width a.v _ _ h x.ensures z.ensures)
    (own_is a.width a.v z.result (a.at + z.result - a.at) x.result o.result (drop a.at a.s.now) h x.ensures (omega arith) o.ensures)
    (c.if-not-own_class.true)

pub returns : goal.returns
returns c =
    let p = c in
    let a = p.args in
    let z = c.bytes_required-size in
    let x = c.from_number-states in
    let h = c.if-v-eq3.false in
    let o = c.own_class in
    c.in_range.ensures
    ∙ wide-own a.s.now a.at a.v a.width p.requires.0 z.result o.result x.result (size_is a.width a.v _ _ h x.ensures z.ensures)
    (own_is a.width a.v z.result (a.at + z.result - a.at) x.result o.result (drop a.at a.s.now) h x.ensures (omega arith) o.ensures)
    (c.if-not-own_class.false) c.if-s-at.false p.requires.1 (class-is a.v x.result h x.ensures) (sym x.ensures)
