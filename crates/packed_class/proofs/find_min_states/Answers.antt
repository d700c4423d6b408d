-- The largest class says the class of symbols, or that one is none (`least-found`).
use Rattle.std.proofs.Common.{refl, sym, ap, ◌∙◌}
use Rattle.value.specs.Class.{class_number, states_or_none}
use Rattle.value.proofs.ClassLaws.{least-found}
use Rattle.packed.specs.Packed.{unpacked}
use Rattle.packed.proofs.PackedLaws.{two-least}
use Rattle.packed_class.proofs.find_min_states.Goals as goal

pub returns-in-Two : goal.returns-in-Two
returns-in-Two c =
    let a = c.args in
    sym (two-least a.width (class_number a.states) a.bytes.now (rw c.in-Two.is refl))

pub returns-in-Four : goal.returns-in-Four
returns-in-Four c =
    let a = c.args in
    c.states_or_none.ensures ∙ ap states_or_none c.class_of.ensures ∙ least-found (unpacked a.width (class_number a.states) a.bytes.now)
