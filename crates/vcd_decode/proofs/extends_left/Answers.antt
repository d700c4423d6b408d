-- h and l do not extend, the letters of the other symbols do.
use Rattle.std.proofs.Common.{sym, rules}
use Rattle.vcd.proofs.ExtendedLaws.{h-and-l-do-not, others-extend}
use Rattle.vcd_decode.proofs.extends_left.Goals as goal
use Rattle.vcd_decode.proofs.extends_left.Goals.{in-104, in_default}

pub returns : goal.returns
returns c = elim c.match-matches.branch [
  | in-104 w ↦ rw w.matches-is (sym (h-and-l-do-not _ (rw c.small_letter.ensures at w.in-104.is)))
  | in_default w ↦ rw w.matches-is (sym (others-extend _ (search rules) c.requires (λ e. let n = w.in_default in search rules)))
]
