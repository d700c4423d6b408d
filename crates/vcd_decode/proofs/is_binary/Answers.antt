-- The invariant: the letters so far, with those that follow, are the text's.
use Rattle.std.proofs.Common.{◌∙◌}
use Rattle.vcd.proofs.SymbolsLaws.{digits-next, digits-all}
use Rattle.vcd_decode.proofs.is_binary.Goals as goal

pub loop-letter-preserved : goal.loop-letter-preserved
loop-letter-preserved c =
    let l = c.loop-letter in
    rw c.is_digit-all.ensures (digits-next l.all l.letter-index _ c.loop-letter-test.true) ∙ l.invariant

pub returns : goal.returns
returns c =
    let l = c.loop-letter in
    digits-all l.all l.letter-index _ c.loop-letter-test.false l.invariant
