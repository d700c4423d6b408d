-- Each part in its turn.
-- Assumes nothing.
use Rattle.std.proofs.Common.{[], ◌∙◌, sym, refl, ap}
use Rattle.line.specs.Line.{number32, kinds_in, start_of}
use Rattle.line.specs.Command.{shown}
use Rattle.line.specs.declared.Command.TheVariants as command
use Rattle.line.specs.Line.{start}
use Rattle.line.proofs.CallLaws.{said-then}
use Rattle.line.proofs.read_start.Goals as goal

pub returns-in_err-signals : goal.returns-in_err-signals
unfolding start_of
returns-in_err-signals c =
    rw (
      c.from_residual.ensures,
      sym (c.in_err-signals.ensures ∙ ap (number32) c.word.ensures),
    ) refl

pub returns-in_err-limit : goal.returns-in_err-limit
unfolding start_of
returns-in_err-limit c =
    rw (
      c.from_residual-in_err-limit.ensures,
      sym (c.in_ok-signals.ensures ∙ ap (number32) c.word.ensures),
      sym (c.in_err-limit.ensures ∙ ap (number32) c.word-2.ensures),
    ) refl

pub returns : goal.returns
unfolding start_of shown
returns c =
    rw (sym (c.in_ok-signals.ensures ∙ ap (number32) c.word.ensures), sym (c.in_ok-limit.ensures ∙ ap (number32) c.word-2.ensures)) (said-then c.args.line.now (kinds_in
    c.args.line.now) [] (start c.in_ok-signals.signals c.in_ok-limit.limit) (command.Start c.in_ok-signals.signals c.in_ok-limit.limit) c.then_some.ensures c.has_kinds.ensures refl)
