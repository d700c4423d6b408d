-- The invariant: the largest class so far, with that of the letters that follow, is the text's.
use Rattle.std.proofs.Common.{◌≡◌, arith, sym, ap, ◌∙◌}
use Rattle.value.specs.Class.{largest_class, states_or_none}
use Rattle.vcd.proofs.SymbolsLaws.{numbers_in, numbers-class, class-next, class-end, binary-two}
use Rattle.vcd_decode.proofs.states_from_ascii.Goals as goal

pub returns-then-is_binary : goal.returns-then-is_binary
returns-then-is_binary c = binary-two _ (sym c.is_binary.ensures ∙ c.if-is_binary.true)

pub loop-letter-preserved : goal.loop-letter-preserved
loop-letter-preserved c =
    let l = c.loop-letter in
    omega (arith, class-next l.letter-index c.args.text.now c.loop-letter-test.true, c.max-class.ensures, c.letter_class.ensures, l.invariant)

pub returns : goal.returns
returns c =
    let l = c.loop-letter in
    let text = c.args.text.now in
    let class : l.class ≡ largest_class (numbers_in text) = omega (arith, class-end l.letter-index text c.loop-letter-test.false, l.invariant) in
    c.states_or_none.ensures ∙ ap states_or_none class ∙ numbers-class text
