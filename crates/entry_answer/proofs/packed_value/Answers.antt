-- By the class of the symbols, where each is at most 8.
use mathlib.Core.Path.{ap}
use Rattle.value.specs.Class.{class_number}
use Rattle.packed.specs.Packed.{unpacked}
use Rattle.entry_answer.specs.Answer.{shown}
use Rattle.entry_answer.proofs.AnswerLaws.{symbols-none, symbols-some}
use Rattle.entry_answer.proofs.packed_value.Goals as goal

pub returns-in-Some : goal.returns-in-Some
returns-in-Some c =
    let p = c in
    let a = p.args in
    symbols-some (unpacked a.width (class_number a.states) a.part.now) a.out.now _ _ _ _
    c.find_min_states.ensures c.in-Some.is
    c.unpack.ensures (ap shown c.symbols_entry.ensures.0)

pub returns-in-None : goal.returns-in-None
returns-in-None c =
    let p = c in
    let a = p.args in
    symbols-none (unpacked a.width (class_number a.states) a.part.now) a.out.now _ c.find_min_states.ensures c.in-None.is
