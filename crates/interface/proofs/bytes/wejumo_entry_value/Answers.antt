-- The answer as numbers, of the kind and the class that the numbers give.
-- Assumes nothing.
use Rattle.std.proofs.Common.{ap, ◌∙◌}
use Rattle.value.specs.declared.states.States.{States}
use Rattle.value.specs.Class.{class_number}
use Rattle.signal.specs.declared.kind.SignalEncoding.{SignalEncoding}
use Rattle.image.specs.Head.{kind_from}
use Rattle.interface_answers.proofs.AnswerLaws.{entry-told}
use Rattle.entry_answer.specs.Answer.{entry_value_of}
use Rattle.interface.proofs.bytes.wejumo_entry_value.Goals as goal

pub returns : goal.returns
returns c =
    let a = c.args in
    entry-told _ _ _ _ c.from.ensures
    (c.entry_value.ensures
    ∙ ap (λ (k : SignalEncoding). entry_value_of k (class_number c.from_number.result) a.bytes.now a.out.now)
    c.kind_from.ensures
    ∙ ap (λ (s : States). entry_value_of (kind_from a.kind) (class_number s) a.bytes.now a.out.now) c.from_number.ensures)
