-- By the number that stands at the place.
use mathlib.Core.Path.{◌∙◌, sym}
use Rattle.stream.proofs.ReadLaws.{number-inside, number-value, number-bad}
use Rattle.stream_read.proofs.read_change.Goals as goal

pub returns-in_err-v : goal.returns-in_err-v
returns-in_err-v c =
    let a = c.args in
    c.from_residual.ensures ∙ number-bad a.kind a.s.now a.at (λ j. (c.type_inv.s j).fits) (sym c.get_leb128.ensures ∙ c.in_err-v.was)

pub read_value-requires : goal.read_value-requires
read_value-requires c =
    let a = c.args in
    number-inside a.s.now a.at _ _ (λ j. (c.type_inv.s j).fits) (sym c.get_leb128.ensures ∙ c.in_ok-v.was)

pub returns : goal.returns
returns c =
    let a = c.args in
    c.read_value.ensures ∙ number-value a.kind a.s.now a.at _ _ (λ j. (c.type_inv.s j).fits) (sym c.get_leb128.ensures ∙ c.in_ok-v.was)
