-- What a good text says at a place is the symbol of its letter there or, before the text, what its first symbol extends with.
use mathlib.Core.Path.{refl, sym, ◌∙◌}
use native.Mathlib.Omega.{arith}
use borrow.Author.Tests.{lt-ltb, le-ltb}
use borrow.Author.Rules.{rules}
use Rattle.lists.specs.Choice.{or_empty}
use Rattle.vcd.specs.Vcd.{text_symbols}
use Rattle.vcd.proofs.VcdLaws.{Text, text-good}
use Rattle.packer_letters.proofs.LetterLaws.{letter-in-nine}
use Rattle.packer_letters.proofs.extended_symbol.Goals as goal
use Rattle.packer_letters.proofs.extended_symbol.Goals.{Start}

good : (c : goal.Start) → Text c.args.width c.args.text.now (or_empty (text_symbols c.args.width c.args.text.now))
good c = text-good c.args.width c.args.text.now c.requires.0

pub overflow_sub-missing : goal.overflow_sub-missing
overflow_sub-missing c = let g = good (goal.at.overflow_sub-missing c).Start in omega arith

pub letter_symbol-requires : goal.letter_symbol-requires
letter_symbol-requires c = let s = c in letter-in-nine s.args.width s.args.text.now s.requires.0 _ (let g = good (goal.at.letter_symbol-requires c).Start in omega arith)

pub returns-then-missing-at : goal.returns-then-missing-at
returns-then-missing-at c =
    let s = c in
    c.letter_symbol.ensures ∙ sym ((good (goal.at.returns-then-missing-at c).Start).at s.args.place (search rules) s.requires.1)

pub bounds-text-0 : goal.bounds-text-0
bounds-text-0 c = let g = good (goal.at.bounds-text-0 c).Start in omega arith

pub letter_symbol-first-requires : goal.letter_symbol-first-requires
letter_symbol-first-requires c = let s = c in letter-in-nine s.args.width s.args.text.now s.requires.0 0 (good (goal.at.letter_symbol-first-requires c).Start).filled

pub returns-then-first-lt2 : goal.returns-then-first-lt2
returns-then-first-lt2 c =
    let first = c.letter_symbol-first in
    let s = c in
    sym ((good (goal.at.returns-then-first-lt2 c).Start).left s.args.place (search rules) ∙ rw (← first.ensures, lt-ltb first.result.0 2 (search rules)) refl)

pub returns : goal.returns
returns c =
    let first = c.letter_symbol-first in
    let s = c in
    sym ((good (goal.at.returns c).Start).left s.args.place (search rules) ∙ rw (← first.ensures, le-ltb first.result.0 2 (search rules)) refl)
