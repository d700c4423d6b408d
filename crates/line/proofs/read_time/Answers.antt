-- Each part in its turn.
-- Assumes nothing.
use Rattle.std.proofs.Common.{◌∙◌, sym, refl, ap}
use Rattle.digits.specs.Numbers.{number_to}
use Rattle.line.specs.Line.{time_of}
use Rattle.line.specs.Command.{shown}
use Rattle.line.proofs.read_time.Goals as goal

pub returns-in_err-decimal : goal.returns-in_err-decimal
unfolding time_of
returns-in_err-decimal c =
    rw (
      c.from_residual.ensures,
      sym (c.in_err-decimal.ensures ∙ ap (number_to 18446744073709551615) c.after.ensures),
    ) refl

pub returns : goal.returns
unfolding time_of shown
returns c =
    rw (sym (c.in_ok-decimal.ensures ∙ ap (number_to 18446744073709551615) c.after.ensures)) refl
