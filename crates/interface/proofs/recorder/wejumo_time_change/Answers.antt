-- The state and the answer as numbers.
-- Assumes nothing.
use Rattle.recording.specs.declared.Encoder.{Encoder}
use Rattle.recording.specs.Memory.{memory}
use Rattle.recording.specs.Step.{time_of}
use Rattle.storage.specs.Storage.{records_of}
use Rattle.interface_answers.proofs.ToldLaws.{told-made}
use Rattle.interface.proofs.recorder.wejumo_time_change.Goals as goal

pub returns : goal.returns
returns c =
    let a = c.args in
    told-made a.state (λ (s : Encoder). time_of (memory s (records_of a.records.now) a.times.now a.work.now a.image.now) a.sender a.time) _ _ _ _ _ _ _ _
    c.from.ensures
    c.time_change-done.ensures c.outcome_numbers.ensures
