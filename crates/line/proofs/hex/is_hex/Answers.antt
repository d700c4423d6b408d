use Rattle.std.proofs.Common.{◌∙◌}
use borrow.Author.Tests.{eq-eqb, ne_eqb}
use Rattle.line.proofs.HexLaws.{hex-digits, hex-odd-length}
use Rattle.line.proofs.hex.is_hex.Goals as goal

pub returns-then-s-eq0 : goal.returns-then-s-eq0
returns-then-s-eq0 c = c.are_digits.ensures ∙ hex-digits c.args.s.now (eq-eqb _ _ c.if-s-eq0.true)

pub returns-else-s-eq0 : goal.returns-else-s-eq0
returns-else-s-eq0 c = let e = ne_eqb _ _ c.if-s-eq0.false in e ∙ hex-odd-length c.args.s.now e
