-- A symbol is at most 8.
use mathlib.Core.Path.{ap}
use Rattle.entry_answer.specs.Answer.{shown}
use Rattle.entry_answer.proofs.AnswerLaws.{bit-over, bit-shown}
use Rattle.entry_answer.proofs.bit_value.Goals as goal

pub returns-then-symbol-gt8 : goal.returns-then-symbol-gt8
returns-then-symbol-gt8 c =
    let p = c in
    let a = p.args in
    bit-over a.symbol a.out.now c.if-symbol-gt8.true

pub returns : goal.returns
returns c =
    let p = c in
    let a = p.args in
    bit-shown a.symbol a.out.now _ _ c.if-symbol-gt8.false c.from_bit.ensures (ap shown c.symbols_entry.ensures.0)
