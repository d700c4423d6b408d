-- By the number that stands at the place, as in read_change.
use mathlib.Core.Path.{◌∙◌, sym}
use Rattle.lists.specs.Bytes.{Bytes}
use Rattle.stream.proofs.ReadLaws.{number-inside, number-value, number-bad}
use Rattle.stream_known.proofs.known_change.Goals as goal

pub returns-in_err-v : goal.returns-in_err-v
returns-in_err-v c =
    let a = c.args in
    c.from_residual.ensures ∙ number-bad a.kind a.s.now a.at (λ j. (c.type_inv.s j).fits) (sym c.get_leb128.ensures ∙ c.in_err-v.was)

pub known_value-requires : goal.known_value-requires
known_value-requires c =
    let a = c.args in
    let y : Bytes a.s.now = λ j. (c.type_inv.s j).fits in
    let e = sym c.get_leb128.ensures ∙ c.in_ok-v.was in
    (number-inside a.s.now a.at _ _ y e, λ b. c.requires (sym (number-value a.kind a.s.now a.at _ _ y e) ∙ b))

pub returns : goal.returns
returns c =
    let a = c.args in
    c.known_value.ensures ∙ number-value a.kind a.s.now a.at _ _ (λ j. (c.type_inv.s j).fits) (sym c.get_leb128.ensures ∙ c.in_ok-v.was)
