use mathlib.Core.Path.{sym, ap, ◌∙◌}
use native.Mathlib.Omega.{arith}
use Rattle.image.specs.Head.{kind_from}
use Rattle.opener.proofs.KindLaws.{known-bad, known_more, known-end}
use Rattle.opener.proofs.kinds_known.Goals as goal

pub returns-then-not-known_kind : goal.returns-then-not-known_kind
returns-then-not-known_kind c =
    let k = c in
    let kind = c.kind_from.ensures ∙ ap kind_from (rw k.kind_place.ensures at c.get_u32.ensures) in
    known-bad _ _ _ 16 _ _ (omega arith) kind c.known_kind.ensures (c.if-not-known_kind.true) ∙ k.loop-i.invariant

pub loop-i-preserved : goal.loop-i-preserved
loop-i-preserved c =
    let k = c in
    let kind = c.kind_from.ensures ∙ ap kind_from (rw k.kind_place.ensures at c.get_u32.ensures) in
    sym (known_more _ _ _ 16 _ _ (omega arith) kind c.known_kind.ensures (c.if-not-known_kind.false)) ∙ k.loop-i.invariant

pub returns : goal.returns
returns c = sym (known-end _ _ _ 16 (omega arith)) ∙ c.loop-i.invariant
