-- A value of width 1 is its last byte alone, by the tests on that byte.
use Rattle.std.proofs.Common.{◌≡◌, ap, sym, ◌∙◌, rules}
use Rattle.lists.specs.Last.{last_or}
use Rattle.lists.proofs.LastLaws.{last_found}
use Rattle.value.specs.Change.{change_of}
use Rattle.vcd.proofs.VcdLaws.{bit-b, bit-last, change-bit, change-none}
use Rattle.vcd_decode.proofs.decode_vcd_bit.Goals as goal
use Rattle.vcd_decode.proofs.decode_vcd_bit.Goals.{After-unwrap_or}

last : (c : goal.After-unwrap_or) → c.unwrap_or.result ≡ last_or 98 c.args.value.now
last c = rw (c.unwrap_or.ensures, c.copied.ensures, c.last.ensures.value) (last_found 98 c.args.value.now)

pub returns-in-98 : goal.returns-in-98
returns-in-98 c = sym (ap (change_of 1) (bit-b c.args.value.now (sym (last (goal.at.returns-in-98 c).After-unwrap_or) ∙ c.in-98.is)))

pub returns-in_ok-bit_char_to_num-in_default : goal.returns-in_ok-bit_char_to_num-in_default
returns-in_ok-bit_char_to_num-in_default c =
    let e = last (goal.at.returns-in_ok-bit_char_to_num-in_default c).After-unwrap_or in
    let only = bit-last c.args.value.now (λ h. let g = e ∙ h in search rules) in
    sym (ap (change_of 1) only ∙ change-bit _ (rw e at (sym c.bit_char_to_num.ensures ∙ c.in_ok-bit_char_to_num-in_default.was)))

pub returns-in_err-bit_char_to_num-in_default : goal.returns-in_err-bit_char_to_num-in_default
returns-in_err-bit_char_to_num-in_default c =
    let e = last (goal.at.returns-in_err-bit_char_to_num-in_default c).After-unwrap_or in
    let only = bit-last c.args.value.now (λ h. let g = e ∙ h in search rules) in
    c.from_residual.ensures ∙ sym (ap (change_of 1) only ∙ change-none _ (rw e at (sym c.bit_char_to_num.ensures ∙ c.in_err-bit_char_to_num-in_default.was)))
