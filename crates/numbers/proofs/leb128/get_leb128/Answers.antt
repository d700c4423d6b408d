-- Each return is a case of the definition, at five bytes.
-- Assumes nothing.
use mathlib.Core.Path.{refl, sym, ◌∙◌}
use native.Mathlib.Omega.{arith}
use borrow.Author.Tests.{lt-ltb, le-ltb, ltb-false}
use Rattle.lists.proofs.PartLaws.{got-element}
use Rattle.numbers.proofs.Leb128Laws.{read-end, read_step}
use Rattle.numbers.proofs.leb128.get_leb128.Goals as goal

pub returns-in_err-get : goal.returns-in_err-get
returns-in_err-get c = let a = c.args in c.from_residual.ensures ∙ sym (read-end 5 a.at a.s.now (ltb-false _ _ (sym c.in_err-get.ensures.lookup.0)))

pub returns-then-b-lt128 : goal.returns-then-b-lt128
returns-then-b-lt128 c =
    let a = c.args in
    let b = got-element a.s.now a.at _ _ c.in_ok-get.ensures.lookup.0 c.in_ok-get.ensures.lookup.1 c.from-b.ensures in
    rw (read_step 5 a.at a.s.now (omega arith) b.0, ← b.1, lt-ltb _ _ c.if-b-lt128.true) refl

pub longer-requires : goal.longer-requires
longer-requires c =
    let a = c.args in
    let b = got-element a.s.now a.at _ _ c.in_ok-get.ensures.lookup.0 c.in_ok-get.ensures.lookup.1 c.from-b.ensures in
    (c.if-b-lt128.false, omega (arith, b.1, c.type_inv.s a.at), omega (arith, b.0))

pub returns : goal.returns
returns c =
    let a = c.args in
    let b = got-element a.s.now a.at _ _ c.in_ok-get.ensures.lookup.0 c.in_ok-get.ensures.lookup.1 c.from-b.ensures in
    rw (read_step 5 a.at a.s.now (omega arith) b.0, ← b.1, le-ltb _ _ c.if-b-lt128.false) c.longer.ensures
