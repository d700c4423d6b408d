-- By the test that the code makes.
-- Assumes nothing.
use mathlib.Core.Path.{refl, ◌∙◌}
use borrow.Author.Tests.{eq-eqb, ne_eqb}
use borrow.Author.Rules.{rules}
use Rattle.value.proofs.letter.with_case.Goals as goal

pub returns-then-letter-name : goal.returns-then-letter-name
returns-then-letter-name c = c.symbol_class-found.ensures ∙ rw (eq-eqb _ _ c.if-letter-name.true) refl

pub returns : goal.returns
returns c = rw (ne_eqb _ _ c.if-letter-name.false) refl
