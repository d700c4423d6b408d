-- B, then S, then the kinds: each return is what `differs` computes there.
-- Assumes nothing.
use mathlib.Core.Path.{sym, ◌∙◌}
use Rattle.walk.specs.Open.{image_of}
use Rattle.join.proofs.TestLaws.{differs-limit, differs-signals, differs-kinds}
use Rattle.join.proofs.tests.differs.Goals as goal

pub returns-then-block_limit : goal.returns-then-block_limit
returns-then-block_limit c =
    let a = c.args in
    differs-limit (image_of a.first) (image_of a.second) _ _ c.block_limit.ensures c.block_limit-2.ensures c.if-block_limit.true

pub returns-then-signal_count : goal.returns-then-signal_count
returns-then-signal_count c =
    let a = c.args in
    differs-signals (image_of a.first) (image_of a.second) _ _ _ _ c.block_limit.ensures
    c.block_limit-2.ensures c.if-block_limit.false c.signal_count.ensures
    c.signal_count-2.ensures c.if-signal_count.true

pub same_kinds-requires : goal.same_kinds-requires
same_kinds-requires c =
    let s = c in
    sym c.signal_count-2.ensures ∙ sym c.if-signal_count.false ∙ c.signal_count.ensures

pub returns : goal.returns
returns c =
    let a = c.args in
    differs-kinds (image_of a.first) (image_of a.second) _ _ _ c.block_limit.ensures
    c.block_limit-2.ensures c.if-block_limit.false c.same_kinds.ensures
