-- The invariant: the letters so far, with those that follow, are the text's.
use Rattle.std.proofs.Common.{◌≡◌, ◌&&◌, drop}
use Rattle.vcd.specs.Vcd.{all_digits}
use Rattle.vcd_decode.proofs.is_binary.Given as goal

abbrev pub invariant-loop-letter : goal.invariant-loop-letter
invariant-loop-letter l = l.all && all_digits (drop l.letter-index l.text) ≡ all_digits l.text
