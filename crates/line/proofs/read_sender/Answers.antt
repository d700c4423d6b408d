-- Each part in its turn.
-- Assumes nothing.
use Rattle.std.proofs.Common.{◌∙◌, sym, refl, ap}
use Rattle.line.specs.Line.{number32, sender_of}
use Rattle.line.specs.Command.{shown}
use Rattle.line.proofs.read_sender.Goals as goal

pub returns-in_err-decimal_32 : goal.returns-in_err-decimal_32
unfolding sender_of
returns-in_err-decimal_32 c =
    rw (
      c.from_residual.ensures,
      sym (c.in_err-decimal_32.ensures ∙ ap (number32) c.after.ensures),
    ) refl

pub returns : goal.returns
unfolding sender_of shown
returns c =
    rw (sym (c.in_ok-decimal_32.ensures ∙ ap (number32) c.after.ensures)) refl
