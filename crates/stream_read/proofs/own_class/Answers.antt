-- Top bits first; where they are zero, all bytes have the class of the symbols (`class-clear`).
use mathlib.Core.Path.{sym, ◌∙◌}
use native.Mathlib.Nat.{sub-zero}
use Rattle.value.specs.Class.{class_number}
use Rattle.value.proofs.ClassLaws.{number_small}
use Rattle.packed_class.proofs.ByteLaws.{class-clear}
use Rattle.stream.proofs.ReadLaws.{own-top, own-by-class}
use Rattle.stream_read.proofs.own_class.Goals as goal

pub returns-then-not-top_clear : goal.returns-then-not-top_clear
returns-then-not-top_clear c =
    let a = c.args in
    own-top a.width (class_number a.states) a.part.now _ c.top_clear.ensures (c.if-not-top_clear.true)

pub returns : goal.returns
returns c =
    let f = c in
    let t = f in
    let s = t in
    let a = s.args in
    let clear = f.if-not-top_clear.false in
    let class = class-clear a.width (class_number a.states) a.part.now s.requires.1 (sym t.top_clear.ensures ∙ clear) in
    own-by-class a.width (class_number a.states) a.part.now t.top_clear.result _ _ t.top_clear.ensures clear
    ((rw sub-zero at f.class_from.ensures) ∙ class) c.number.ensures (number_small a.states)
