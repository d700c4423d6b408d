-- By the class, the laws of its letters.
use native.Mathlib.Omega.{arith}
use borrow.Author.Rules.{rules}
use Rattle.packer_letters.proofs.LetterLaws.{two-letter, four-letter, nine-letter}
use Rattle.packer_letters.proofs.letter_symbol.Goals as goal

pub overflow_mul-place : goal.overflow_mul-place
overflow_mul-place c = omega (arith, c.from.ensures)

pub returns-in-Two : goal.returns-in-Two
returns-in-Two c = let s = c in two-letter s.args.letter (search rules) (rw c.in-Two.is at s.requires)

pub returns-in-Four : goal.returns-in-Four
returns-in-Four c = let s = c in four-letter s.args.letter (search rules) (rw c.in-Four.is at s.requires)

pub returns-in-Nine : goal.returns-in-Nine
returns-in-Nine c =
    let s = c in
    rw c.from.ensures (nine-letter s.args.letter (search rules) (rw c.in-Nine.is at s.requires))
