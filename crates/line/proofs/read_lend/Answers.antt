-- Each part in its turn.
-- Assumes nothing.
use Rattle.std.proofs.Common.{◌∙◌, sym, refl, ap}
use Rattle.digits.specs.Numbers.{number_to}
use Rattle.line.specs.Line.{lend_of}
use Rattle.line.specs.Command.{shown}
use Rattle.line.proofs.read_lend.Goals as goal

pub returns-in_err-times : goal.returns-in_err-times
unfolding lend_of
returns-in_err-times c =
    rw (
      c.from_residual.ensures,
      sym (c.in_err-times.ensures ∙ ap (number_to 65535) c.word.ensures),
    ) refl

pub returns-in_err-work : goal.returns-in_err-work
unfolding lend_of
returns-in_err-work c =
    rw (
      c.from_residual-in_err-work.ensures,
      sym (c.in_ok-times.ensures ∙ ap (number_to 65535) c.word.ensures),
      sym (c.in_err-work.ensures ∙ ap (number_to 1048576) c.word-2.ensures),
    ) refl

pub returns-in_err-image : goal.returns-in_err-image
unfolding lend_of
returns-in_err-image c =
    rw (
      c.from_residual-in_err-image.ensures,
      sym (c.in_ok-times.ensures ∙ ap (number_to 65535) c.word.ensures),
      sym (c.in_ok-work.ensures ∙ ap (number_to 1048576) c.word-2.ensures),
      sym (c.in_err-image.ensures ∙ ap (number_to 1048576) c.after.ensures),
    ) refl

pub returns : goal.returns
unfolding lend_of shown
returns c =
    rw (
      sym (c.in_ok-times.ensures ∙ ap (number_to 65535) c.word.ensures),
      sym (c.in_ok-work.ensures ∙ ap (number_to 1048576) c.word-2.ensures),
      sym (c.in_ok-image.ensures ∙ ap
          (number_to 1048576) c.after.ensures),
    ) refl
