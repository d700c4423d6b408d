-- A text is bad or in the class of its symbols, by the tests on its length and its first symbol; the extension leaves the class.
use Rattle.std.proofs.Common.{◌≡◌, refl, ap, sym, ◌∙◌, ◌||◌, eqb, length, get_or, rules}
use borrow.Author.Tests.{eq-eqb, ne_eqb}
use Rattle.lists.proofs.ChoiceLaws.{then_some_pick}
use Rattle.value.specs.Change.{change_of}
use Rattle.value.specs.Symbol.{symbol_of, or_number}
use Rattle.vcd.specs.Vcd.{extends}
use Rattle.vcd.proofs.VcdLaws.{text-empty, text-long, text-bad, first-symbol, text-change}
use Rattle.vcd_decode.proofs.decode_vcd_text.Goals as goal
use Rattle.vcd_decode.proofs.decode_vcd_text.Goals.{Joined-text-width, then-is_empty-via-then-is_empty, then-is_empty-via-else-is_empty+then-width-text, then-text-width, else-text-width}

pub returns-then-is_empty : goal.returns-then-is_empty
returns-then-is_empty c = elim c.then-is_empty.branch [
  | then-is_empty-via-then-is_empty w ↦ let h = w.if-is_empty in sym (ap (change_of _) (text-empty _ c.args.text.now (search rules)))
  | then-is_empty-via-else-is_empty+then-width-text w ↦ sym (ap (change_of _) (text-long _ c.args.text.now w.if-width-text.true))
]

pub returns-in_err-states : goal.returns-in_err-states
returns-in_err-states c = c.from_residual.ensures ∙ sym (ap (change_of _) (text-bad _ _ (search rules) (search rules) (sym c.states_from_ascii.ensures ∙ c.in_err-states.was)))

pub extends_left-whole-requires : goal.extends_left-whole-requires
extends_left-whole-requires c = first-symbol _ (search rules) (sym c.states_from_ascii.ensures ∙ c.in_ok-states.was)

-- the code's test is the law's
whole : (c : goal.Joined-text-width) → let a = c.args in
    c.if-text-width.whole ≡ (eqb (length a.text.now) a.width || extends (or_number 255 (symbol_of (get_or a.text.now 0 0))))
whole c = elim c.if-text-width.branch [
  | then-text-width w ↦ w.whole-is ∙ sym (rw (eq-eqb _ _ w.if-text-width.true) refl)
  | else-text-width w ↦ w.whole-is ∙ w.extends_left-whole.ensures ∙ sym (rw (ne_eqb _ _ w.if-text-width.false) refl)
]

pub returns : goal.returns
returns c =
    let a = c.args in
    let law = text-change a.width a.text.now c.requires (search rules) (search rules) (sym c.states_from_ascii.ensures ∙ c.in_ok-states.was) in
    c.then_some.ensures ∙ then_some_pick _ _ ∙ rw (whole (goal.at.returns c).Joined-text-width) (sym law)
