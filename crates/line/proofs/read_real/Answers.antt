-- Each part in its turn.
-- Assumes nothing.
use Rattle.std.proofs.Common.{◌∙◌, sym, refl, ap}
use Rattle.digits.specs.Numbers.{bits_of}
use Rattle.line.specs.Line.{number32, real_of}
use Rattle.line.specs.Command.{shown}
use Rattle.line.proofs.read_real.Goals as goal

pub returns-in_err-signal : goal.returns-in_err-signal
unfolding real_of
returns-in_err-signal c =
    rw (
      c.from_residual.ensures,
      sym (c.in_err-signal.ensures ∙ ap (number32) c.word.ensures),
    ) refl

pub returns-in_err-bits : goal.returns-in_err-bits
unfolding real_of
returns-in_err-bits c =
    rw (
      c.from_residual-in_err-bits.ensures,
      sym (c.in_ok-signal.ensures ∙ ap (number32) c.word.ensures),
      sym (c.in_err-bits.ensures ∙ ap (bits_of) c.after.ensures),
    ) refl

pub returns : goal.returns
unfolding real_of shown
returns c =
    rw (sym (c.in_ok-signal.ensures ∙ ap (number32) c.word.ensures), sym (c.in_ok-bits.ensures ∙ ap (bits_of) c.after.ensures)) refl
