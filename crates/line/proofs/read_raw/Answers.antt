-- Each part in its turn.
-- Assumes nothing.
use Rattle.std.proofs.Common.{[], ◌∙◌, sym, refl, ap, List, ℕ, is_some}
use Rattle.digits.specs.Numbers.{hex_bytes}
use Rattle.line.specs.Line.{number32, raw_of}
use Rattle.line.specs.Command.{shown, bytes_in}
use Rattle.line.specs.declared.Command.TheVariants as command
use Rattle.line.specs.Words.{after}
use Rattle.line.specs.Line.{raw}
use Rattle.line.proofs.CallLaws.{said-then}
use Rattle.line.proofs.read_raw.Goals as goal

pub returns-in_err-signal : goal.returns-in_err-signal
unfolding raw_of
returns-in_err-signal c =
    rw (
      c.from_residual.ensures,
      sym (c.in_err-signal.ensures ∙ ap (number32) c.word.ensures),
    ) refl

pub returns-in_err-claim : goal.returns-in_err-claim
unfolding raw_of
returns-in_err-claim c =
    rw (
      c.from_residual-in_err-claim.ensures,
      sym (c.in_ok-signal.ensures ∙ ap (number32) c.word.ensures),
      sym (c.in_err-claim.ensures ∙ ap (number32) c.word-2.ensures),
    ) refl

pub returns : goal.returns
unfolding raw_of shown bytes_in
returns c =
    rw (sym (c.in_ok-signal.ensures ∙ ap (number32) c.word.ensures), sym (c.in_ok-claim.ensures ∙ ap (number32) c.word-2.ensures)) (said-then c.args.line.now (hex_bytes (after 3
    c.args.line.now)) [] (raw c.in_ok-signal.signal c.in_ok-claim.claim) (command.Raw c.in_ok-signal.signal c.in_ok-claim.claim) c.then_some.ensures (c.is_hex.ensures ∙ ap (λ (s : List
    ℕ). is_some (hex_bytes s)) c.after.ensures) refl)
