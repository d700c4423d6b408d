-- The invariant: the largest class so far, with that of the letters that follow, is the text's.
use Rattle.std.proofs.Common.{◌≡◌, max, drop}
use Rattle.value.specs.Class.{largest_class}
use Rattle.vcd.proofs.SymbolsLaws.{numbers_in}
use Rattle.vcd_decode.proofs.states_from_ascii.Given as goal

abbrev pub invariant-loop-letter : goal.invariant-loop-letter
invariant-loop-letter l = max l.class (largest_class (numbers_in (drop l.letter-index l.text))) ≡ largest_class (numbers_in l.text)
