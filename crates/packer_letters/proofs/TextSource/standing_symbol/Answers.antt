-- A letter's symbol is the digit at its place.
use Rattle.std.proofs.Common.{◌≡◌, ◌+◌, ◌-◌, ◌^◌, ◌<◌, sym, subst, ◌∙◌, get_or, length, arith}
use Rattle.value.specs.Class.{class_number, bits_of}
use Rattle.value.specs.Symbol.{symbol_of, or_number}
use Rattle.packed.specs.Packed.{digit_at}
use Rattle.packed.proofs.PackedLaws.{digit_lt}
use Rattle.packer.specs.Number.{number_in}
use Rattle.packer.specs.declared.Notation.TheVariants.{Ascii}
use Rattle.packer.proofs.NotationLaws.{text-digit}
use Rattle.packer_letters.proofs.TextSource.standing_symbol.Goals as goal
use Rattle.packer_letters.proofs.TextSource.standing_symbol.Goals.{Start}

digit : (c : goal.Start) → let a = c.args in let t = a.self.now in
    or_number 255 (symbol_of (get_or t.letters.now (length t.letters.now - 1 - a.after - a.i) 0))
    ≡ digit_at (bits_of (class_number a.states)) (a.after + a.i) (number_in (class_number a.states) Ascii t.width t.letters.now)
digit c = let a = c.args in text-digit a.self.now.width (class_number a.states) a.self.now.letters.now c.requires.held _ (a.after + a.i) (omega arith)

pub letter_symbol-requires : goal.letter_symbol-requires
letter_symbol-requires c =
    let d = digit (goal.at.letter_symbol-requires c).Start in
    subst (λ n. n < 2 ^ bits_of (class_number c.args.states)) (sym d) (digit_lt (bits_of (class_number c.args.states)) (c.args.after + c.args.i) _)

pub returns : goal.returns
returns c = c.letter_symbol.ensures ∙ digit (goal.at.returns c).Start
