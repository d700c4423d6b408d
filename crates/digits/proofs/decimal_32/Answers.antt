-- The number is at most the largest of 32 bits.
-- Assumes nothing.
use Rattle.std.proofs.Common.{arith, ◌<◌, ◌≤◌, ◌≡◌, Some}
use Rattle.std.proofs.lemmas.Result.{Ok-from_Ok_iff}
use Rattle.std.proofs.lemmas.Grind.{common_steps}
use Rattle.digits.specs.Numbers.{number_to}
use Rattle.digits.proofs.NumberLaws.{number-most}
use Rattle.digits.proofs.decimal_32.Goals as goal

pub returns : goal.returns
returns c =
    let d : Some c.in_ok-n.n ≡ number_to 4294967295 c.args.s.now = grind (arith, common_steps) in
    let m : c.in_ok-n.n ≤ 4294967295 = number-most 4294967295 c.in_ok-n.n c.args.s.now d in
    let r = Ok-from_Ok_iff c.try_from.result (c.in_ok-n.n < 4294967296) c.in_ok-n.n c.try_from.ensures (omega arith) in
    rw (c.ok.ensures.value, r) d
