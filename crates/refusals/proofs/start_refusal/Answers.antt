-- By the one test that the table comes to.
-- Assumes nothing.
use mathlib.Core.Path.{sym, ap, ◌∙◌}
use mathlib.Core.Bool.{Bool}
use Rattle.lists.specs.Choice.{pick}
use Rattle.refusals.proofs.StateLaws.{start-told}
use Rattle.refusals.proofs.start_refusal.Goals as goal

pub returns-then-is_bad_start : goal.returns-then-is_bad_start
returns-then-is_bad_start c =
    sym (start-told _ _ _ _ _ ∙ ap (λ (b : Bool). pick b 1 0) (sym c.is_bad_start.ensures ∙ c.if-is_bad_start.true))

pub returns : goal.returns
returns c = sym (start-told _ _ _ _ _ ∙ ap (λ (b : Bool). pick b 1 0) (sym c.is_bad_start.ensures ∙ c.if-is_bad_start.false))
