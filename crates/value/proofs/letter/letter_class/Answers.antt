-- What the cases say one after the other is what the letter's symbol says: one test over all bytes (`cases-class`).
-- Assumes nothing.
use borrow.Author.Rules.{rules}
use Rattle.value.proofs.SymbolLaws.{cases-class}
use Rattle.value.proofs.letter.letter_class.Goals as goal

pub returns : goal.returns
returns c =
    let c8 = c in
    let c7 = c8 in
    let c6 = c7 in
    let c5 = c6 in
    let c4 = c5 in
    let c3 = c4 in
    let c2 = c3 in
    let c1 = c2 in
    let letter = c1 in
    rw (
      c.with_case-class-9.ensures,
      c8.with_case-class-8.ensures,
      c7.with_case-class-7.ensures,
      c6.with_case-class-6.ensures,
      c5.with_case-class-5.ensures,
      c4.with_case-class-4.ensures,
      c3.with_case-class-3.ensures,
      c2.with_case-class-2.ensures,
      c1.with_case-class.ensures,
      letter.small_letter-letter.ensures,
    )
    (cases-class letter.args.value (search rules))
