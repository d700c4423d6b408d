use mathlib.Core.Path.{sym, ◌∙◌}
use Rattle.opener.proofs.OpenLaws.{head-short, head-wrong, head-kinds, numbers-say}
use Rattle.opener.proofs.is_head.Goals as goal

pub returns-then-image-lt-HEAD_KINDS : goal.returns-then-image-lt-HEAD_KINDS
returns-then-image-lt-HEAD_KINDS c = head-short _ c.if-image-lt-HEAD_KINDS.true

pub returns-then-not-numbers_fit : goal.returns-then-not-numbers_fit
returns-then-not-numbers_fit c =
    head-wrong _ c.if-image-lt-HEAD_KINDS.false _ _ _ c.get_u32-signals.ensures c.get_u32-limit.ensures
    c.get_u32-total.ensures _ c.numbers_fit.ensures (c.if-not-numbers_fit.true)

pub kinds_known-requires : goal.kinds_known-requires
kinds_known-requires c = (numbers-say _ _ _ _ (sym c.numbers_fit.ensures ∙ c.if-not-numbers_fit.false)).head-room

pub returns : goal.returns
returns c =
    head-kinds _ c.if-image-lt-HEAD_KINDS.false _ _ _ c.get_u32-signals.ensures
    c.get_u32-limit.ensures c.get_u32-total.ensures _ c.numbers_fit.ensures _
    (c.if-not-numbers_fit.false) c.kinds_known.ensures
