-- By the name that the word is; else it is a number.
-- Assumes nothing.
use Rattle.std.proofs.Common.{◌∙◌, sym, refl}
use Rattle.line.proofs.KindLaws.{kind-event, kind-real, kind-absent, kind-number}
use Rattle.line.proofs.kinds.SignalEncodingFromWord.from_word.Goals as goal

pub returns-then-spells : goal.returns-then-spells
returns-then-spells c = kind-event c.args.w.now (sym c.spells.ensures ∙ c.if-spells.true)

pub returns-then-spells-2 : goal.returns-then-spells-2
returns-then-spells-2 c = kind-real c.args.w.now (sym c.spells.ensures ∙ c.if-spells.false) (sym c.spells-2.ensures ∙ c.if-spells-2.true)

pub returns-then-spells-3 : goal.returns-then-spells-3
returns-then-spells-3 c =
    kind-absent c.args.w.now (sym c.spells.ensures ∙ c.if-spells.false) (sym c.spells-2.ensures ∙ c.if-spells-2.false)
    (sym c.spells-3.ensures ∙ c.if-spells-3.true)

pub returns-in_err-decimal_32 : goal.returns-in_err-decimal_32
returns-in_err-decimal_32 c =
    let e = kind-number c.args.w.now (sym c.spells.ensures ∙ c.if-spells.false) (sym c.spells-2.ensures ∙ c.if-spells-2.false)
    (sym c.spells-3.ensures ∙ c.if-spells-3.false) in
    rw (c.from_residual.ensures, e, ← c.in_err-decimal_32.ensures) refl

pub returns : goal.returns
returns c =
    let e = kind-number c.args.w.now (sym c.spells.ensures ∙ c.if-spells.false) (sym c.spells-2.ensures ∙ c.if-spells-2.false)
    (sym c.spells-3.ensures ∙ c.if-spells-3.false) in
    rw (e, ← c.in_ok-decimal_32.ensures, c.vector.ensures) refl
